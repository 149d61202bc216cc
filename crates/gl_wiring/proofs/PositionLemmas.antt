-- The rows of a body's wire at their positions: these turn into the cycles in which the rows come, in the same order.
use Rattle.std.proofs.Common.{◌≡◌, ℕ, zero, suc, ◌+◌, ◌<◌, ◌≤◌, List, [], ◌∷◌, ◌++◌, length, Option, Some, None, Bool, true, false, inl, inr, refl, sym, ap, ◌∙◌, arith, length-append, lt-ltb, le-ltb}
use Rattle.std.specs.Prelude.{option_to_list, if◌then◌else◌}
use Rattle.std.specs.List.{range_with_len}
use Rattle.std.proofs.lemmas.Bool.{cases_lt}
use Rattle.gl_arrival.specs.Changes.{moved}
use Rattle.gl_arrival.specs.Laws.{Rises}
use Rattle.gl_arrival.specs.Places.{at_place, at_places}
use Rattle.gl_values.specs.Results.{Row}
use Rattle.gl_algebra.specs.Laws.{TurnInto}
use Rattle.gl_algebra.specs.Results.{Inputs}
use Rattle.gl_algebra.specs.Values.{Sets}
use Rattle.gl_wire.specs.Serving.{inputs_at}
use Rattle.gl_wire.specs.Ticks.{cycles_at, cycles_before, times_of}
use Rattle.gl_wire.specs.Wire.{Carried, pending, stream}
use Rattle.gl_wiring.specs.Leaves.{silent}

-- ---- numbers that rise, and those above them

-- the number at a place of a list, and behind its end the numbers from a limit on
abbrev turned : List ℕ → ℕ → ℕ → ℕ
turned [] above i = above + i
turned (c ∷ cs) above zero = c
turned (c ∷ cs) above (suc i) = turned cs above i

-- from a limit on each is above the one before, and none reaches another limit
abbrev Rising : ℕ → List ℕ → ℕ → Type 0
Rising low [] above = low ≤ above
Rising low (c ∷ cs) above = (low ≤ c) × Rising (suc c) cs above

rising_low : (low : ℕ) (cs : List ℕ) (above i : ℕ) → Rising low cs above → low ≤ turned cs above i
rising_low low [] above i h = omega (arith, h)
rising_low low (c ∷ cs) above zero h = h.0
rising_low low (c ∷ cs) above (suc i) h = let first = h.0 in let rest = rising_low (suc c) cs above i h.1 in omega (arith, first, rest)

rising_less : (low : ℕ) (cs : List ℕ) (above m n : ℕ) → Rising low cs above → m < n → turned cs above m < turned cs above n
rising_less low [] above m n h l = omega (arith, l)
rising_less low (c ∷ cs) above zero zero h l = absurd (omega (arith, l))
rising_less low (c ∷ cs) above zero (suc n) h l = let rest = rising_low (suc c) cs above n h.1 in omega (arith, rest)
rising_less low (c ∷ cs) above (suc m) zero h l = absurd (omega (arith, l))
rising_less low (c ∷ cs) above (suc m) (suc n) h l = rising_less (suc c) cs above m n h.1 (omega (arith, l))

rising_least : (low : ℕ) (cs : List ℕ) (above m n : ℕ) → Rising low cs above → n ≤ m → turned cs above n ≤ turned cs above m
rising_least low cs above m n h l = elim (cases_lt n m) [
  | inl less ↦ (let x = rising_less low cs above n m h less in omega (arith, x))
  | inr more ↦ (let same : n ≡ m = omega (arith, l, more) in let e = ap (turned cs above) same in omega (arith, e))
]

turned_rises : (low : ℕ) (cs : List ℕ) (above : ℕ) → Rising low cs above → Rises (turned cs above)
turned_rises low cs above h m n = elim (cases_lt m n) [
  | inl less ↦ lt-ltb (turned cs above m) (turned cs above n) (rising_less low cs above m n h less) ∙ sym (lt-ltb m n less)
  | inr more ↦ le-ltb (turned cs above m) (turned cs above n) (rising_least low cs above m n h more) ∙ sym (le-ltb m n more)
]

rising_more : (low c : ℕ) (xs : List ℕ) → Rising low xs c → Rising low (xs ++ c ∷ []) (suc c)
rising_more low c [] h = (h, omega arith)
rising_more low c (x ∷ xs) h = (h.0, rising_more (suc x) c xs h.1)

rising_later : (low c : ℕ) (xs : List ℕ) → Rising low xs c → Rising low (xs ++ []) (suc c)
rising_later low c [] h = omega (arith, h)
rising_later low c (x ∷ xs) h = (h.0, rising_later (suc x) c xs h.1)

-- ---- the cycles of a wire's rows

module _ (s : Carried) where
  at_rise : (c : ℕ) → Rising 0 (cycles_before s c) c → Rising 0 (cycles_at s c) (suc c)
  at_rise c h = by (s.tuple c)
    where
      by : (o : Option Row) → Rising 0 (cycles_before s c ++ times_of o c) (suc c)
      by None = rising_later 0 c (cycles_before s c) h
      by (Some r) = rising_more 0 c (cycles_before s c) h

  before_rise : (c : ℕ) → Rising 0 (cycles_before s c) c
  before_rise zero = omega arith
  before_rise (suc c) = by (s.ends c) (at_rise c (before_rise c))
    where
      by : (e : Bool) → Rising 0 (cycles_at s c) (suc c) → Rising 0 (if e then [] else cycles_at s c) (suc c)
      by true h = omega arith
      by false h = h

  one_more : (c : ℕ) → length (pending s c) ≡ length (cycles_before s c) → length (stream s c) ≡ length (cycles_at s c)
  one_more c h = by (s.tuple c)
    where
      by : (o : Option Row) → length (pending s c ++ option_to_list o) ≡ length (cycles_before s c ++ times_of o c)
      by None = omega (arith, h, length-append (pending s c) [], length-append (cycles_before s c) [])
      by (Some r) = omega (arith, h, length-append (pending s c) (r ∷ []), length-append (cycles_before s c) (c ∷ []))

  as_many_before : (c : ℕ) → length (pending s c) ≡ length (cycles_before s c)
  as_many_before zero = refl
  as_many_before (suc c) = by (s.ends c) (one_more c (as_many_before c))
    where
      by : (e : Bool) → length (stream s c) ≡ length (cycles_at s c) → length (if e then [] else stream s c) ≡ length (if e then [] else cycles_at s c)
      by true h = refl
      by false h = h

  -- the cycle of the row at a position
  abbrev pub cycle_at : ℕ → ℕ → ℕ
  cycle_at t = turned (cycles_at s t) (suc t)

  pub cycles_rise : (t : ℕ) → Rises (cycle_at t)
  cycles_rise t = turned_rises 0 (cycles_at s t) (suc t) (at_rise t (before_rise t))

placed_turned : (g : ℕ → ℕ) (above k : ℕ) (xs : List Row) (cs : List ℕ) → length xs ≡ length cs → ((i : ℕ) → g (k + i) ≡ turned cs above i)
    → at_places xs cs ≡ moved g (at_places xs (range_with_len k (length xs)))
placed_turned g above k [] cs many h = refl
placed_turned g above k (x ∷ xs) [] many h = absurd (omega (arith, many))
placed_turned g above k (x ∷ xs) (c ∷ cs) many h =
    let here : c ≡ g k = sym (h 0) ∙ ap g (let e : k + 0 ≡ k = omega arith in e) in
    let rest = placed_turned g above (k + 1) xs cs (omega (arith, many)) (λ i. ap g (let e : k + 1 + i ≡ k + suc i = omega arith in e) ∙ h (suc i)) in
    λ i. at_place x (here i) ∷ rest i

-- ---- what a body's leaves give, each row at its position

abbrev pub at_positions_in : Sets → (ℕ → Bool) → (ℕ → Carried) → ℕ → Inputs
at_positions_in sets tick ls t =
    record (inputs_at sets tick ls (ls 0) t) {
      places = λ k. range_with_len 0 (length (stream (ls k) t));
      body_places = range_with_len 0 (length (stream (ls 0) t));
    }

pub quiet_stream : (c : ℕ) → pending silent c ≡ []
quiet_stream zero = refl
quiet_stream (suc c) = ap (λ (l : List Row). l ++ []) (quiet_stream c)

pub silent_stream : (c : ℕ) → stream silent c ≡ []
silent_stream c = ap (λ (l : List Row). l ++ []) (quiet_stream c)

pub turn_into_cycles : (sets : Sets) (tick : ℕ → Bool) (ls : ℕ → Carried) (t : ℕ) → ((k : ℕ) → stream (ls (suc k)) t ≡ [])
    → TurnInto (cycle_at (ls 0) t) (at_positions_in sets tick ls t) (inputs_at sets tick ls (ls 0) t)
turn_into_cycles sets tick ls t none = record {
  streams = λ k. refl;
  places = placed;
  times = λ k. refl;
  ticks = refl;
  body = refl;
  body_places = first;
  sets = refl;
}
  where
    first : at_places (stream (ls 0) t) (cycles_at (ls 0) t) ≡ moved (cycle_at (ls 0) t) (at_places (stream (ls 0) t) (range_with_len 0 (length (stream (ls 0) t))))
    first =
        placed_turned (cycle_at (ls 0) t) (suc t) 0 (stream (ls 0) t) (cycles_at (ls 0) t) (one_more (ls 0) t (as_many_before (ls 0) t))
        (λ i. ap (cycle_at (ls 0) t) (let e : 0 + i ≡ i = omega arith in e))

    nothing : (xs : List Row) (ps qs : List ℕ) → xs ≡ [] → at_places xs ps ≡ moved (cycle_at (ls 0) t) (at_places xs qs)
    nothing [] ps qs e = refl
    nothing (x ∷ xs) ps qs e = absurd (cc)

    placed : (k : ℕ) → at_places (stream (ls k) t) (cycles_at (ls k) t) ≡ moved (cycle_at (ls 0) t) (at_places (stream (ls k) t) (range_with_len 0 (length (stream (ls k) t))))
    placed zero = first
    placed (suc k) = nothing (stream (ls (suc k)) t) (cycles_at (ls (suc k)) t) (range_with_len 0 (length (stream (ls (suc k)) t))) (none k)
