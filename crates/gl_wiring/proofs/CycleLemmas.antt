-- The cycles in which the rows of a file come at the last beat: each one behind the cycle of its beat in the file.
use Rattle.std.proofs.Common.{◌≡◌, ℕ, zero, suc, ◌+◌, ◌<◌, ◌≤◌, Bool, true, false, eq-eqb, List, [], ◌∷◌, ◌++◌, length, map, Option, Some, None, inl, inr, refl, sym, ap, ◌∙◌, append_assoc, arith, lt-ltb, le-ltb}
use Rattle.std.specs.Prelude.{option_map}
use Rattle.std.specs.List.{cons_option}
use Rattle.std.proofs.lemmas.List.{append-nil}
use Rattle.std.proofs.lemmas.Bool.{ne_eqb, cases_eq, cases_lt}
use Rattle.gl_values.specs.Results.{Row}
use Rattle.gl_schema.specs.Beats.{Beat, AreInOrder, ends_at, input_of, last_in, places_of, row_in}
use Rattle.gl_schema.proofs.Timed.{places_long}
use Rattle.gl_arrival.specs.Changes.{moved}
use Rattle.gl_arrival.specs.Laws.{Rises}
use Rattle.gl_arrival.specs.Places.{at_place, at_places}
use Rattle.gl_wire.specs.Ticks.{cycles_at, cycles_before, times_of}
use Rattle.gl_wire.specs.Wire.{Carried}
use Rattle.gl_wiring.specs.Bringing.{Brings, row_at}
use Rattle.gl_wiring.specs.Leaves.{silent}
use Rattle.gl_wiring.proofs.BeatLemmas.{before_none, ends_only, last_late}

-- the cycles of the rows of n cycles from a place on
unfoldable cycles_in : (ℕ → Option Row) → ℕ → ℕ → List ℕ
cycles_in tuple c zero = []
cycles_in tuple c (suc n) = times_of (tuple c) c ++ cycles_in tuple (suc c) n

nothing : (n : ℕ) → 0 + n ≡ n
nothing n = omega arith

module _ (a : Carried) where
  next_cycles : (c : ℕ) → a.ends c ≡ false → cycles_before a (suc c) ≡ cycles_before a c ++ times_of (a.tuple c) c
  next_cycles c h = rw h refl

  cycles_on : (n c : ℕ) → ((d : ℕ) → d < c + n → a.ends d ≡ false) → cycles_at a (c + n) ≡ cycles_before a c ++ cycles_in a.tuple c (suc n)
  unfolding cycles_in
  cycles_on zero c quiet =
      let e : c + 0 ≡ c = omega arith in
      ap (cycles_at a) e ∙ ap (λ (l : List ℕ). cycles_before a c ++ l) (sym (append-nil (times_of (a.tuple c) c)))
  cycles_on (suc n) c quiet =
      let e : c + suc n ≡ suc c + n = omega arith in
      let rest = cycles_on n (suc c) (λ d l. quiet d (omega (arith, l))) in
      ap (cycles_at a) e ∙ rest
      ∙ ap (λ (l : List ℕ). l ++ cycles_in a.tuple (suc c) (suc n)) (next_cycles c (quiet c (omega arith)))
      ∙ append_assoc (cycles_before a c) (times_of (a.tuple c) c) (cycles_in a.tuple (suc c) (suc n))

  -- from reset on
  cycles_all : (n : ℕ) → ((d : ℕ) → d < n → a.ends d ≡ false) → cycles_at a n ≡ cycles_in a.tuple 0 (suc n)
  cycles_all n quiet = ap (cycles_at a) (sym (nothing n)) ∙ cycles_on n 0 (λ d l. quiet d (omega (arith, l)))

-- a cycle later
same_cycles : (row tuple : ℕ → Option Row) → ((n : ℕ) → tuple (suc n) ≡ row n) → (n c : ℕ) → cycles_in tuple (suc c) n ≡ map suc (cycles_in row c n)
unfolding cycles_in
same_cycles row tuple r zero c = refl
same_cycles row tuple r (suc n) c =
    ap (λ (o : Option Row). times_of o (suc c) ++ cycles_in tuple (suc (suc c)) n) (r c) ∙ by (row c) (same_cycles row tuple r n (suc c))
  where
    by : (o : Option Row) → cycles_in tuple (suc (suc c)) n ≡ map suc (cycles_in row (suc c) n)
        → times_of o (suc c) ++ cycles_in tuple (suc (suc c)) n ≡ map suc (times_of o c ++ cycles_in row (suc c) n)
    by None h = h
    by (Some x) h = ap (λ (l : List ℕ). suc c ∷ l) h

module _ (k : ℕ) where
  skip_cycles : (b : Beat) (bs : List Beat) (n at : ℕ) → b.cycle < at → cycles_in (row_at k (b ∷ bs)) at n ≡ cycles_in (row_at k bs) at n
  unfolding cycles_in
  skip_cycles b bs zero at lt = refl
  skip_cycles b bs (suc n) at lt = rw (ne_eqb b.cycle at (λ e. omega arith), skip_cycles b bs n (suc at) (omega arith)) refl

  no_beats : (n at : ℕ) → cycles_in (row_at k []) at n ≡ []
  unfolding cycles_in
  no_beats zero at = refl
  no_beats (suc n) at = no_beats n (suc at)

  cycles_cons : (o : Option Row) (cycle at : ℕ) (xs : List ℕ) → cycle ≡ at → times_of o at ++ xs ≡ cons_option (option_map (λ row. cycle) o) xs
  cycles_cons None cycle at xs e = refl
  cycles_cons (Some r) cycle at xs e = ap (λ (n : ℕ). n ∷ xs) (sym e)

  all_cycles : (n at : ℕ) (b : Beat) (bs : List Beat) → AreInOrder (b ∷ bs) → at ≤ b.cycle → last_in (b ∷ bs) < at + n
      → cycles_in (row_at k (b ∷ bs)) at n ≡ places_of k (b ∷ bs)
  unfolding cycles_in
  all_cycles zero at b bs h from past = absurd (omega (arith, last_late b bs h))
  all_cycles (suc n) at b [] h from past = elim (cases_eq b.cycle at) [
    | inl e ↦ rw (eq-eqb b.cycle at e, skip_cycles b [] n (suc at) (omega arith), no_beats n (suc at)) (cycles_cons (row_in k b) b.cycle at [] e)
    | inr ne ↦ rw (ne_eqb b.cycle at ne) (all_cycles n (suc at) b [] h (omega (arith, ne)) (omega arith))
  ]
  all_cycles (suc n) at b (c ∷ bs) h from past = elim (cases_eq b.cycle at) [
    | inl e ↦ rw (
      eq-eqb b.cycle at e,
      skip_cycles b (c ∷ bs) n (suc at) (omega arith),
      all_cycles n (suc at) c bs h.2 (omega (arith, h.1)) (omega arith),
    ) (cycles_cons (row_in k b) b.cycle at _ e)
    | inr ne ↦ rw (ne_eqb b.cycle at ne, before_none c bs at h.2 (omega (arith, h.1))) (all_cycles n (suc at) b (c ∷ bs) h (omega (arith, ne)) (omega arith))
  ]

file_all_cycles : (k : ℕ) (bs : List Beat) → AreInOrder bs → cycles_in (row_at k bs) 0 (suc (last_in bs)) ≡ places_of k bs
file_all_cycles k [] h = absurd h
file_all_cycles k (b ∷ bs) h = all_cycles k (suc (last_in (b ∷ bs))) 0 b bs h (omega arith) (omega arith)

module _ (k : ℕ) (beats : List Beat) (order : AreInOrder beats) (s : Carried) (b : Brings k beats s) where
  quiet : (d : ℕ) → d < suc (last_in beats) → s.ends d ≡ false
  quiet zero l = b.no_end
  quiet (suc c) l = by (ends_at beats c) refl
    where
      by : (e : Bool) → ends_at beats c ≡ e → s.ends (suc c) ≡ false
      by true p = absurd (let z = ends_only beats c order p in omega arith)
      by false p = b.ends c ∙ p

  pub file_cycles : cycles_at s (suc (last_in beats)) ≡ map suc (places_of k beats)
  unfolding cycles_in
  file_cycles =
      cycles_all s (suc (last_in beats)) quiet
      ∙ rw b.first (same_cycles (row_at k beats) s.tuple b.tuples (suc (last_in beats)) 0)
      ∙ ap (λ (l : List ℕ). map suc l) (file_all_cycles k beats order)

-- a cycle later, in the same order
pub later_rises : Rises suc
later_rises m n = elim (cases_lt m n) [
  | inl less ↦ lt-ltb (suc m) (suc n) (omega (arith, less)) ∙ sym (lt-ltb m n less)
  | inr more ↦ le-ltb (suc m) (suc n) (omega (arith, more)) ∙ sym (le-ltb m n more)
]

-- places one later
pub places_later : (xs : List Row) (ps : List ℕ) → length ps ≡ length xs → at_places xs (map suc ps) ≡ moved suc (at_places xs ps)
places_later [] ps many = refl
places_later (x ∷ xs) [] many = absurd (omega (arith, many))
places_later (x ∷ xs) (p ∷ ps) many = ap (λ l. at_place x (suc p) ∷ l) (places_later xs ps (omega (arith, many)))

silent_cycles : (c : ℕ) → cycles_before silent c ≡ []
silent_cycles zero = refl
silent_cycles (suc c) = ap (λ (l : List ℕ). l ++ []) (silent_cycles c)

-- where no stream is, there are none
pub no_cycles : (k : ℕ) (beats : List Beat) (c : ℕ) → input_of k beats ≡ [] → cycles_at silent c ≡ map suc (places_of k beats)
no_cycles k beats c none =
    ap (λ (l : List ℕ). l ++ []) (silent_cycles c) ∙ ap (λ (l : List ℕ). map suc l) (sym (empty (places_of k beats) (places_long k beats ∙ ap (λ (l : List Row). length l) none)))
  where
    empty : (ps : List ℕ) → length ps ≡ 0 → ps ≡ []
    empty [] e = refl
    empty (p ∷ ps) e = absurd (omega (arith, e))
