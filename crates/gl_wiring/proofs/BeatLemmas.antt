-- The beats of a file cycle by cycle, and the rows that they bring on one stream.
use Rattle.std.proofs.Common.{◌≡◌, ℕ, zero, suc, ◌+◌, ◌<◌, ◌≤◌, true, false, eq-eqb, List, [], ◌∷◌, ◌++◌, Option, Some, None, inl, inr, refl, sym, arith}
use Rattle.std.specs.Option.{option_to_list}
use Rattle.std.specs.List.{cons_option}
use Rattle.std.proofs.lemmas.Bool.{ne_eqb, cases_eq}
use Rattle.gl_schema.specs.Beats.{Beat, AreInOrder, row_in, input_of, last_in, beat_at, ends_at}
use Rattle.gl_wiring.specs.Bringing.{row_at}

pub last_late : (b : Beat) (bs : List Beat) → AreInOrder (b ∷ bs) → b.cycle ≤ last_in (b ∷ bs)
last_late b [] k = omega arith
last_late b (c ∷ bs) k = omega (arith, k.1, last_late c bs k.2)

pub before_none : (b : Beat) (bs : List Beat) (n : ℕ) → AreInOrder (b ∷ bs) → n < b.cycle → beat_at (b ∷ bs) n ≡ None
before_none b [] n k lt = rw (ne_eqb b.cycle n (λ e. omega arith)) refl
before_none b (c ∷ bs) n k lt = rw (ne_eqb b.cycle n (λ e. omega arith)) (before_none c bs n k.2 (omega (arith, k.1)))

pub after_none : (beats : List Beat) (n : ℕ) → AreInOrder beats → last_in beats < n → beat_at beats n ≡ None
after_none [] n k lt = refl
after_none (b ∷ []) n k lt = rw (ne_eqb b.cycle n (λ e. omega arith)) refl
after_none (b ∷ c ∷ bs) n k lt = rw (ne_eqb b.cycle n (λ e. omega (arith, k.1, last_late c bs k.2))) (after_none (c ∷ bs) n k.2 lt)

pub ends_last : (beats : List Beat) → AreInOrder beats → ends_at beats (last_in beats) ≡ true
ends_last [] k = absurd k
ends_last (b ∷ []) k = rw (eq-eqb b.cycle b.cycle refl) k
ends_last (b ∷ c ∷ bs) k = rw (ne_eqb b.cycle (last_in (c ∷ bs)) (λ e. omega (arith, k.1, last_late c bs k.2))) (ends_last (c ∷ bs) k.2)

pub ends_only : (beats : List Beat) (n : ℕ) → AreInOrder beats → ends_at beats n ≡ true → n ≡ last_in beats
ends_only [] n k e = absurd k
ends_only (b ∷ []) n k e = elim (cases_eq b.cycle n) [
  | inl h ↦ sym h
  | inr h ↦ absurd (let g : false ≡ true = rw (ne_eqb b.cycle n h) at e in cc)
]
ends_only (b ∷ c ∷ bs) n k e = elim (cases_eq b.cycle n) [
  | inl h ↦ absurd (let g : b.end ≡ true = rw (eq-eqb b.cycle n h) at e in let f : b.end ≡ false = k.0 in cc)
  | inr h ↦ ends_only (c ∷ bs) n k.2 (rw (ne_eqb b.cycle n h) at e)
]

-- the rows of n cycles from a place on
unfoldable pub rows_from : ℕ → List Beat → ℕ → ℕ → List (List ℕ)
rows_from k beats at zero = []
rows_from k beats at (suc n) = option_to_list (row_at k beats at) ++ rows_from k beats (at + 1) n

no_rows : (k at n : ℕ) → rows_from k [] at n ≡ []
unfolding rows_from
no_rows k at zero = refl
no_rows k at (suc n) = no_rows k (at + 1) n

skip : (k : ℕ) (b : Beat) (bs : List Beat) (at n : ℕ) → b.cycle < at → rows_from k (b ∷ bs) at n ≡ rows_from k bs at n
unfolding rows_from
skip k b bs at zero lt = refl
skip k b bs at (suc n) lt = rw (ne_eqb b.cycle at (λ e. omega arith), skip k b bs (at + 1) n (omega arith)) refl

pub cons_is : {X : Type 0} (o : Option X) (xs : List X) → cons_option o xs ≡ option_to_list o ++ xs
cons_is None xs = refl
cons_is (Some x) xs = refl

-- all rows, where the cycles begin before the first beat and reach past the last one
all_rows : (k n at : ℕ) (b : Beat) (bs : List Beat) → AreInOrder (b ∷ bs) → at ≤ b.cycle → last_in (b ∷ bs) < at + n → rows_from k (b ∷ bs) at n ≡ input_of k (b ∷ bs)
unfolding rows_from
all_rows k zero at b bs h from past = absurd (omega (arith, last_late b bs h))
all_rows k (suc n) at b [] h from past =
    elim (cases_eq b.cycle at) [
      | inl e ↦ rw (eq-eqb b.cycle at e, skip k b [] (at + 1) n (omega arith), no_rows k (at + 1) n) (sym (cons_is (row_in k b) []))
      | inr ne ↦ rw (ne_eqb b.cycle at ne) (all_rows k n (at + 1) b [] h (omega (arith, ne)) (omega arith))
    ]
all_rows k (suc n) at b (c ∷ bs) h from past =
    elim (cases_eq b.cycle at) [
      | inl e ↦ rw (eq-eqb b.cycle at e, skip k b (c ∷ bs) (at + 1) n (omega arith), all_rows k n (at + 1) c bs h.2 (omega (arith, h.1)) (omega arith)) (sym (cons_is (row_in k b) _))
      | inr ne ↦ rw (ne_eqb b.cycle at ne, before_none c bs at h.2 (omega (arith, h.1))) (all_rows k n (at + 1) b (c ∷ bs) h (omega (arith, ne)) (omega arith))
    ]

-- all rows of a stream up to the last beat
pub file_rows : (k : ℕ) (bs : List Beat) → AreInOrder bs → rows_from k bs 0 (suc (last_in bs)) ≡ input_of k bs
file_rows k [] h = absurd h
file_rows k (b ∷ bs) h = all_rows k (suc (last_in (b ∷ bs))) 0 b bs h (omega arith) (omega arith)
