-- The ticks and the times of rows of a file, as a line of ticks beside wires tells them at the last beat.
use Rattle.std.proofs.Common.{◌≡◌, ℕ, zero, suc, ◌+◌, ◌<◌, ◌≤◌, Bool, true, false, eq-eqb, List, [], ◌∷◌, ◌++◌, Option, Some, None, inl, inr, refl, sym, ap, ◌∙◌, append_assoc, arith}
use Rattle.std.specs.Prelude.{option_map, if◌then◌else◌}
use Rattle.std.specs.List.{cons_option}
use Rattle.std.proofs.lemmas.List.{append-nil}
use Rattle.std.proofs.lemmas.Bool.{ne_eqb, cases_eq}
use Rattle.gl_values.specs.Results.{Row}
use Rattle.gl_bits.specs.Words.{bit}
use Rattle.gl_schema.specs.Beats as beat
use Rattle.gl_schema.specs.Beats.{Beat, AreInOrder, ends_at, input_of, last_in, row_in, ticks_of, times_from}
use Rattle.gl_wire.specs.Ticks.{ticks_at, ticks_before, ticks_in, times_at, times_before, times_of}
use Rattle.gl_wire.specs.Wire.{Carried}
use Rattle.gl_wiring.specs.Bringing.{Brings, row_at}
use Rattle.gl_wiring.specs.Leaves.{silent}
use Rattle.gl_wiring.proofs.BeatLemmas.{before_none, ends_only, last_late}

-- the times of the rows of n cycles from a place on, behind `before` ticks
unfoldable times_in : (ℕ → Bool) → (ℕ → Option Row) → ℕ → ℕ → ℕ → List ℕ
times_in tick tuple before c zero = []
times_in tick tuple before c (suc n) = times_of (tuple c) (before + bit (tick c)) ++ times_in tick tuple (before + bit (tick c)) (suc c) n

nothing : (n : ℕ) → 0 + n ≡ n
nothing n = omega arith

-- ---- a line beside a wire that has not ended

with_tick : (b : Bool) (n : ℕ) → (if b then suc n else n) ≡ n + bit b
with_tick true n = omega arith
with_tick false n = omega arith

module _ (tick : ℕ → Bool) (a : Carried) where
  here : (c : ℕ) → ticks_at tick a c ≡ ticks_before tick a c + bit (tick c)
  here c = with_tick (tick c) (ticks_before tick a c)

  next_ticks : (c : ℕ) → a.ends c ≡ false → ticks_before tick a (suc c) ≡ ticks_before tick a c + bit (tick c)
  next_ticks c h = rw h (here c)

  next_times : (c : ℕ) → a.ends c ≡ false
      → times_before tick a (suc c) ≡ times_before tick a c ++ times_of (a.tuple c) (ticks_before tick a c + bit (tick c))
  next_times c h = rw h (ap (λ (t : ℕ). times_before tick a c ++ times_of (a.tuple c) t) (here c))

  ticks_on : (n c : ℕ) → ((d : ℕ) → d < c + n → a.ends d ≡ false)
      → ticks_at tick a (c + n) ≡ ticks_before tick a c + ticks_in tick c (suc n)
  ticks_on zero c quiet = let e : c + 0 ≡ c = omega arith in rw e (here c ∙ omega arith)
  ticks_on (suc n) c quiet =
      let e : c + suc n ≡ suc c + n = omega arith in
      let first = next_ticks c (quiet c (omega arith)) in
      let rest = ticks_on n (suc c) (λ d l. quiet d (omega (arith, l))) in
      ap (ticks_at tick a) e ∙ rest ∙ omega (arith, first)

  times_on : (n c : ℕ) → ((d : ℕ) → d < c + n → a.ends d ≡ false)
      → times_at tick a (c + n) ≡ times_before tick a c ++ times_in tick a.tuple (ticks_before tick a c) c (suc n)
  unfolding times_in
  times_on zero c quiet =
      let e : c + 0 ≡ c = omega arith in
      ap (times_at tick a) e
      ∙ ap (λ (t : ℕ). times_before tick a c ++ times_of (a.tuple c) t) (here c)
      ∙ ap (λ (l : List ℕ). times_before tick a c ++ l) (sym (append-nil (times_of (a.tuple c) (ticks_before tick a c + bit (tick c)))))
  times_on (suc n) c quiet =
      let e : c + suc n ≡ suc c + n = omega arith in
      let quiet_here = quiet c (omega arith) in
      let rest = times_on n (suc c) (λ d l. quiet d (omega (arith, l))) in
      let own = times_of (a.tuple c) (ticks_before tick a c + bit (tick c)) in
      ap (times_at tick a) e ∙ rest
      ∙ ap (λ (t : ℕ). times_before tick a (suc c) ++ times_in tick a.tuple t (suc c) (suc n)) (next_ticks c quiet_here)
      ∙ ap (λ (l : List ℕ). l ++ times_in tick a.tuple (ticks_before tick a c + bit (tick c)) (suc c) (suc n)) (next_times c quiet_here)
      ∙ append_assoc (times_before tick a c) own (times_in tick a.tuple (ticks_before tick a c + bit (tick c)) (suc c) (suc n))

  -- from reset on
  ticks_all : (n : ℕ) → ((d : ℕ) → d < n → a.ends d ≡ false) → ticks_at tick a n ≡ ticks_in tick 0 (suc n)
  ticks_all n quiet = ap (ticks_at tick a) (sym (nothing n)) ∙ ticks_on n 0 (λ d l. quiet d (omega (arith, l))) ∙ nothing (ticks_in tick 0 (suc n))

  times_all : (n : ℕ) → ((d : ℕ) → d < n → a.ends d ≡ false) → times_at tick a n ≡ times_in tick a.tuple 0 0 (suc n)
  times_all n quiet = ap (times_at tick a) (sym (nothing n)) ∙ times_on n 0 (λ d l. quiet d (omega (arith, l)))

-- ---- the same over the beats

same_ticks : (tick line : ℕ → Bool) → ((n : ℕ) → line (suc n) ≡ tick n) → (n c : ℕ) → ticks_in line (suc c) n ≡ ticks_in tick c n
same_ticks tick line h zero c = refl
same_ticks tick line h (suc n) c = rw (h c, same_ticks tick line h n (suc c)) refl

same_times : (tick line : ℕ → Bool) (row tuple : ℕ → Option Row) → ((n : ℕ) → line (suc n) ≡ tick n) → ((n : ℕ) → tuple (suc n) ≡ row n)
    → (n before c : ℕ) → times_in line tuple before (suc c) n ≡ times_in tick row before c n
unfolding times_in
same_times tick line row tuple h r zero before c = refl
same_times tick line row tuple h r (suc n) before c = rw (h c, r c, same_times tick line row tuple h r n (before + bit (tick c)) (suc c)) refl

skip_ticks : (b : Beat) (bs : List Beat) (n at : ℕ) → b.cycle < at → ticks_in (beat.ticks_at (b ∷ bs)) at n ≡ ticks_in (beat.ticks_at bs) at n
skip_ticks b bs zero at lt = refl
skip_ticks b bs (suc n) at lt = rw (ne_eqb b.cycle at (λ e. omega arith), skip_ticks b bs n (suc at) (omega arith)) refl

no_beats_ticks : (n at : ℕ) → ticks_in (beat.ticks_at []) at n ≡ 0
no_beats_ticks zero at = refl
no_beats_ticks (suc n) at = let z = no_beats_ticks n (suc at) in omega (arith, z)

all_ticks : (n at : ℕ) (b : Beat) (bs : List Beat) → AreInOrder (b ∷ bs) → at ≤ b.cycle → last_in (b ∷ bs) < at + n
    → ticks_in (beat.ticks_at (b ∷ bs)) at n ≡ ticks_of (b ∷ bs)
all_ticks zero at b bs h from past = absurd (omega (arith, last_late b bs h))
all_ticks (suc n) at b [] h from past = elim (cases_eq b.cycle at) [
  | inl e ↦ rw (eq-eqb b.cycle at e, skip_ticks b [] n (suc at) (omega arith), no_beats_ticks n (suc at)) refl
  | inr ne ↦ rw (ne_eqb b.cycle at ne) (nothing _ ∙ all_ticks n (suc at) b [] h (omega (arith, ne)) (omega arith))
]
all_ticks (suc n) at b (c ∷ bs) h from past = elim (cases_eq b.cycle at) [
  | inl e ↦ rw (eq-eqb b.cycle at e, skip_ticks b (c ∷ bs) n (suc at) (omega arith), all_ticks n (suc at) c bs h.2 (omega (arith, h.1)) (omega arith)) refl
  | inr ne ↦ rw (ne_eqb b.cycle at ne, before_none c bs at h.2 (omega (arith, h.1))) (nothing _ ∙ all_ticks n (suc at) b (c ∷ bs) h (omega (arith, ne)) (omega arith))
]

module _ (k : ℕ) where
  skip_times : (b : Beat) (bs : List Beat) (n before at : ℕ) → b.cycle < at
      → times_in (beat.ticks_at (b ∷ bs)) (row_at k (b ∷ bs)) before at n ≡ times_in (beat.ticks_at bs) (row_at k bs) before at n
  unfolding times_in
  skip_times b bs zero before at lt = refl
  skip_times b bs (suc n) before at lt =
      rw (ne_eqb b.cycle at (λ e. omega arith), skip_times b bs n (before + bit (beat.ticks_at bs at)) (suc at) (omega arith)) refl

  no_beats_times : (n before at : ℕ) → times_in (beat.ticks_at []) (row_at k []) before at n ≡ []
  unfolding times_in
  no_beats_times zero before at = refl
  no_beats_times (suc n) before at = no_beats_times n (before + 0) (suc at)

  times_cons : (o : Option Row) (time : ℕ) (xs : List ℕ) → times_of o time ++ xs ≡ cons_option (option_map (λ row. time) o) xs
  times_cons None time xs = refl
  times_cons (Some r) time xs = refl

  all_times : (n before at : ℕ) (b : Beat) (bs : List Beat) → AreInOrder (b ∷ bs) → at ≤ b.cycle → last_in (b ∷ bs) < at + n
      → times_in (beat.ticks_at (b ∷ bs)) (row_at k (b ∷ bs)) before at n ≡ times_from before k (b ∷ bs)
  unfolding times_in
  all_times zero before at b bs h from past = absurd (omega (arith, last_late b bs h))
  all_times (suc n) before at b [] h from past = elim (cases_eq b.cycle at) [
    | inl e ↦ rw (eq-eqb b.cycle at e, skip_times b [] n (before + bit b.tick) (suc at) (omega arith), no_beats_times n (before + bit b.tick) (suc at))
        (times_cons (row_in k b) (before + bit b.tick) [])
    | inr ne ↦ (let still : before + 0 ≡ before = omega arith in
        rw (ne_eqb b.cycle at ne, still) (all_times n before (suc at) b [] h (omega (arith, ne)) (omega arith)))
  ]
  all_times (suc n) before at b (c ∷ bs) h from past = elim (cases_eq b.cycle at) [
    | inl e ↦ rw (
      eq-eqb b.cycle at e,
      skip_times b (c ∷ bs) n (before + bit b.tick) (suc at) (omega arith),
      all_times n (before + bit b.tick) (suc at) c bs h.2 (omega (arith, h.1)) (omega arith),
    ) (times_cons (row_in k b) (before + bit b.tick) _)
    | inr ne ↦ (let still : before + 0 ≡ before = omega arith in
        rw (ne_eqb b.cycle at ne, before_none c bs at h.2 (omega (arith, h.1)), still)
        (all_times n before (suc at) b (c ∷ bs) h (omega (arith, ne)) (omega arith)))
  ]

-- ---- at the last beat

file_all_ticks : (bs : List Beat) → AreInOrder bs → ticks_in (beat.ticks_at bs) 0 (suc (last_in bs)) ≡ ticks_of bs
file_all_ticks [] h = absurd h
file_all_ticks (b ∷ bs) h = all_ticks (suc (last_in (b ∷ bs))) 0 b bs h (omega arith) (omega arith)

file_all_times : (k : ℕ) (bs : List Beat) → AreInOrder bs → times_in (beat.ticks_at bs) (row_at k bs) 0 0 (suc (last_in bs)) ≡ beat.times_of k bs
file_all_times k [] h = absurd h
file_all_times k (b ∷ bs) h = all_times k (suc (last_in (b ∷ bs))) 0 0 b bs h (omega arith) (omega arith)

module _ (k : ℕ) (beats : List Beat) (order : AreInOrder beats) (line : ℕ → Bool) (first : line 0 ≡ false)
    (ticks : (n : ℕ) → line (suc n) ≡ beat.ticks_at beats n) (s : Carried) (b : Brings k beats s) where
  quiet : (d : ℕ) → d < suc (last_in beats) → s.ends d ≡ false
  quiet zero l = b.no_end
  quiet (suc c) l = by (ends_at beats c) refl
    where
      by : (e : Bool) → ends_at beats c ≡ e → s.ends (suc c) ≡ false
      by true p = absurd (let z = ends_only beats c order p in omega arith)
      by false p = b.ends c ∙ p

  pub file_ticks : ticks_at line s (suc (last_in beats)) ≡ ticks_of beats
  file_ticks =
      ticks_all line s (suc (last_in beats)) quiet
      ∙ ap (λ (x : Bool). bit x + ticks_in line 1 (suc (last_in beats))) first ∙ nothing (ticks_in line 1 (suc (last_in beats)))
      ∙ same_ticks (beat.ticks_at beats) line ticks (suc (last_in beats)) 0 ∙ file_all_ticks beats order

  pub file_times : times_at line s (suc (last_in beats)) ≡ beat.times_of k beats
  unfolding times_in
  file_times =
      times_all line s (suc (last_in beats)) quiet
      ∙ rw (first, b.first) (same_times (beat.ticks_at beats) line (row_at k beats) s.tuple ticks b.tuples (suc (last_in beats)) 0 0)
      ∙ file_all_times k beats order

-- where no stream is, there are the ticks all the same, and no times
pub no_ticks : (beats : List Beat) → AreInOrder beats → (line : ℕ → Bool) → line 0 ≡ false → ((n : ℕ) → line (suc n) ≡ beat.ticks_at beats n)
    → ticks_at line silent (suc (last_in beats)) ≡ ticks_of beats
no_ticks beats order line first ticks =
    ticks_all line silent (suc (last_in beats)) (λ d l. refl)
    ∙ ap (λ (x : Bool). bit x + ticks_in line 1 (suc (last_in beats))) first ∙ nothing (ticks_in line 1 (suc (last_in beats)))
    ∙ same_ticks (beat.ticks_at beats) line ticks (suc (last_in beats)) 0 ∙ file_all_ticks beats order

silent_times : (line : ℕ → Bool) (c : ℕ) → times_before line silent c ≡ []
silent_times line zero = refl
silent_times line (suc c) = ap (λ (l : List ℕ). l ++ []) (silent_times line c)

times_none : (k before : ℕ) (bs : List Beat) → input_of k bs ≡ [] → times_from before k bs ≡ []
times_none k before [] h = refl
times_none k before (b ∷ bs) h = by (row_in k b) refl (times_none k (before + bit b.tick) bs)
  where
    by : (o : Option Row) → row_in k b ≡ o → (input_of k bs ≡ [] → times_from (before + bit b.tick) k bs ≡ []) → times_from before k (b ∷ bs) ≡ []
    by None p rest = rw p (rest (rw p at h))
    by (Some r) p rest = absurd (let z : r ∷ input_of k bs ≡ [] = rw p at h in cc)

pub no_times : (k : ℕ) (beats : List Beat) (line : ℕ → Bool) (c : ℕ) → input_of k beats ≡ [] → times_at line silent c ≡ beat.times_of k beats
no_times k beats line c none = ap (λ (l : List ℕ). l ++ []) (silent_times line c) ∙ sym (times_none k 0 beats none)
