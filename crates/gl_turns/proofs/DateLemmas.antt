-- Rows at beats: without their beats, some cycles later, and what holds of each of them.
use Rattle.std.proofs.Common.{◌≡◌, ℕ, zero, suc, ◌+◌, ◌-◌, ◌<◌, ◌≤◌, List, [], ◌++◌, Option, Some, None, Bool, true, false, refl, ap, ◌∙◌, arith, inl, inr}
use Rattle.std.specs.Prelude.{if◌then◌else◌, is_some, map, option_to_list}
use Rattle.std.specs.List.{AllByRecursion}
use Rattle.std.proofs.lemmas.Bool.{cases_lt}
use Rattle.std.proofs.lemmas.List.{append-nil, map-append}
use Rattle.gl_bits.proofs.AllLists.{all_append}
use Rattle.gl_values.specs.Results.{Row}
use Rattle.gl_wire.specs.Beats.{Beats}
use Rattle.gl_wire.specs.Shapes.{IsDelayed}
use Rattle.gl_wire.specs.Wire.{Carried, pending, stream}
use Rattle.gl_arrival.specs.Places.{Placed, at_place, rows_of}
use Rattle.gl_turns.specs.Dates.{beat_of, last_beat, pending_at_beats, row_at_beat, stream_at_beats}

-- ---- the last beat

none_else : (o : Option Bool) → ((e : Bool) → o ≡ Some e → ⊥) → o ≡ None
none_else None h = refl
none_else (Some e) h = absurd (h e refl)

-- a beat with none behind it up to this cycle is the last one
pub last_is : (beats : Beats) (t : ℕ) (e : Bool) → beats t ≡ Some e → (c : ℕ) → t ≤ c → ((u : ℕ) (d : Bool) → beats u ≡ Some d → t < u → u ≤ c → ⊥) → last_beat beats c ≡ t
last_is beats t e h zero l none = let z : 0 ≡ t = omega (arith, l) in z
last_is beats t e h (suc c) l none = elim (cases_lt c t) [
  | inl x ↦ (let same : suc c ≡ t = omega (arith, x, l) in
      let here : beats (suc c) ≡ Some e = ap beats same ∙ h in
      ap (λ (o : Option Bool). if is_some o then suc c else last_beat beats c) here ∙ same)
  | inr x ↦ (let empty : beats (suc c) ≡ None = none_else (beats (suc c)) (λ d q. none (suc c) d q (omega (arith, x)) (omega arith)) in
      ap (λ (o : Option Bool). if is_some o then suc c else last_beat beats c) empty
      ∙ last_is beats t e h c x (λ u d q m n. none u d q m (omega (arith, n))))
]

module _ (first : ℕ) (beats : Beats) (s : Carried) where
  pub row_none : (c : ℕ) → s.tuple c ≡ None → row_at_beat first beats s c ≡ []
  row_none c h = ap (λ (o : Option Row). map (λ (r : Row). at_place r (beat_of first beats c)) (option_to_list o)) h

  -- ---- without beats

  row_without : (c : ℕ) → rows_of (row_at_beat first beats s c) ≡ option_to_list (s.tuple c)
  row_without c = by (s.tuple c)
    where
      by : (o : Option Row) → rows_of (map (λ (r : Row). at_place r (beat_of first beats c)) (option_to_list o)) ≡ option_to_list o
      by None = refl
      by (Some r) = refl

  joined : (xs : List (Placed Row)) (c : ℕ) → rows_of (xs ++ row_at_beat first beats s c) ≡ rows_of xs ++ option_to_list (s.tuple c)
  joined xs c = map-append (λ (x : Placed Row). x.row) xs (row_at_beat first beats s c) ∙ ap (λ l. rows_of xs ++ l) (row_without c)

  pub pending_without : (c : ℕ) → rows_of (pending_at_beats first beats s c) ≡ pending s c
  pending_without zero = refl
  pending_without (suc c) = by (s.ends c) (pending_without c)
    where
      by : (e : Bool) → rows_of (pending_at_beats first beats s c) ≡ pending s c
          → rows_of (if e then [] else pending_at_beats first beats s c ++ row_at_beat first beats s c) ≡ (if e then [] else pending s c ++ option_to_list (s.tuple c))
      by true h = refl
      by false h = joined (pending_at_beats first beats s c) c ∙ ap (λ l. l ++ option_to_list (s.tuple c)) h

  pub stream_without : (c : ℕ) → rows_of (stream_at_beats first beats s c) ≡ stream s c
  stream_without c = joined (pending_at_beats first beats s c) c ∙ ap (λ l. l ++ option_to_list (s.tuple c)) (pending_without c)

  -- ---- what holds of each row that came holds of all that are pending

  pub all_pending : (P : Placed Row → Type 0) (c : ℕ) → ((k : ℕ) (r : Row) → k < c → s.tuple k ≡ Some r → P (at_place r (beat_of first beats k))) → AllByRecursion P (pending_at_beats first beats s c)
  all_pending P zero h = tt
  all_pending P (suc c) h =
      by (s.ends c)
      (all_append P (pending_at_beats first beats s c) (row_at_beat first beats s c) (all_pending P c (λ k r l e. h k r (omega (arith, l)) e)) (own (s.tuple c) refl))
    where
      own : (o : Option Row) → s.tuple c ≡ o → AllByRecursion P (map (λ (r : Row). at_place r (beat_of first beats c)) (option_to_list o))
      own None e = tt
      own (Some r) e = (h c r (omega arith) e, tt)

      by : (e : Bool) → AllByRecursion P (stream_at_beats first beats s c) → AllByRecursion P (if e then [] else stream_at_beats first beats s c)
      by true k = tt
      by false k = k

-- ---- a wire some cycles behind another has the same rows at the same beats

module _ (m : ℕ) (s b : Carried) (d : IsDelayed m s b) (first : ℕ) (beats : Beats) where
  beat_later : (c : ℕ) → beat_of (first + m) beats (c + m) ≡ beat_of first beats c
  beat_later c = let e : c + m - (first + m) ≡ c - first = omega arith in ap (last_beat beats) e

  row_later : (c : ℕ) → row_at_beat (first + m) beats b (c + m) ≡ row_at_beat first beats s c
  row_later c =
      ap (λ (n : ℕ). map (λ (r : Row). at_place r n) (option_to_list (b.tuple (c + m)))) (beat_later c)
      ∙ ap (λ (o : Option Row). map (λ (r : Row). at_place r (beat_of first beats c)) (option_to_list o)) (d.tuples c)

  pending_quiet : (n : ℕ) → n ≤ m → pending_at_beats (first + m) beats b n ≡ []
  pending_quiet zero l = refl
  pending_quiet (suc n) l =
      ap (λ (e : Bool). if e then [] else stream_at_beats (first + m) beats b n) (d.no_end n (omega (arith, l)))
      ∙ ap (λ r. pending_at_beats (first + m) beats b n ++ r) (row_none (first + m) beats b n (d.before n (omega (arith, l))))
      ∙ append-nil (pending_at_beats (first + m) beats b n) ∙ pending_quiet n (omega (arith, l))

  pending_later : (c : ℕ) → pending_at_beats (first + m) beats b (c + m) ≡ pending_at_beats first beats s c
  pending_later zero = let e : zero + m ≡ m = omega arith in ap (pending_at_beats (first + m) beats b) e ∙ pending_quiet m (omega arith)
  pending_later (suc c) =
      let e : suc c + m ≡ suc (c + m) = omega arith in
      ap (pending_at_beats (first + m) beats b) e
      ∙ ap (λ (x : Bool). if x then [] else stream_at_beats (first + m) beats b (c + m)) (d.ends c)
      ∙ ap (λ l. if s.ends c then [] else l ++ row_at_beat (first + m) beats b (c + m)) (pending_later c)
      ∙ ap (λ l. if s.ends c then [] else pending_at_beats first beats s c ++ l) (row_later c)

  pub stream_later : (c : ℕ) → stream_at_beats (first + m) beats b (c + m) ≡ stream_at_beats first beats s c
  stream_later c =
      ap (λ l. l ++ row_at_beat (first + m) beats b (c + m)) (pending_later c) ∙ ap (λ l. pending_at_beats first beats s c ++ l) (row_later c)
