-- Worked streams before a front, with the visits of its copies as they were worked out by hand.
use Rattle.std.specs.Prelude.{◌≡◌, ℕ, zero, suc, List, [], ◌∷◌, Option, Some, None, Bool, false, ◌&&◌, ◌||◌, nat_eq}
use Rattle.gl_values.specs.Results.{Row}
use Rattle.gl_wire.specs.Wire.{Carried}
use Rattle.gl_wire.specs.Lift.{visits}
use Rattle.gl_windows.specs.Front.{closes, mid, oldest, taken, who_ends}

-- the tuples of these cycles, from cycle 0 on, each of one number
abbrev pub tuples_in : List (Option ℕ) → ℕ → Option Row
tuples_in [] c = None
tuples_in (None ∷ xs) zero = None
tuples_in (Some x ∷ xs) zero = Some (x ∷ [])
tuples_in (x ∷ xs) (suc c) = tuples_in xs c

-- ends in these cycles
abbrev pub ends_in : List ℕ → ℕ → Bool
ends_in [] c = false
ends_in (x ∷ xs) c = nat_eq c x || ends_in xs c

-- a wire with these tuples and ends
abbrev pub wire_with : List (Option ℕ) → List ℕ → Carried
wire_with tuples ends = record { tuple = tuples_in tuples; ends = ends_in ends }

-- what the wire of a copy carries
abbrev pub copy_tuple : ℕ → ℕ → ℕ → ℕ → Carried → ℕ → ℕ → Option Row
copy_tuple size advance count stride a k zero = None
copy_tuple size advance count stride a k (suc c) =
    taken count (a.ends c) (a.tuple c) (mid size advance count stride a c) k

abbrev pub copy_end : ℕ → ℕ → ℕ → ℕ → Carried → ℕ → ℕ → Bool
copy_end size advance count stride a k zero = false
copy_end size advance count stride a k (suc c) =
    closes size advance count stride a c && nat_eq k (oldest size advance count stride a c)

-- the cycles and the streams of the visits in the first n cycles
abbrev pub visits_in : ℕ → ℕ → ℕ → ℕ → Carried → ℕ → List (ℕ × List Row)
visits_in size advance count stride a n =
    visits (who_ends size advance count stride a)
    (λ k. record { tuple = copy_tuple size advance count stride a k; ends = copy_end size advance count stride a k })
    0 n

-- five tuples and then the end alone; much later one tuple with the end
abbrev pub two_streams : Carried
two_streams =
    wire_with (None ∷ Some 1 ∷ Some 2 ∷ Some 3 ∷ Some 4 ∷ Some 5 ∷ None ∷ None ∷ None ∷ None ∷ None ∷ None ∷ None ∷ None
    ∷ Some 9 ∷ [])
    (6 ∷ 14 ∷ [])

-- five tuples, the last one with the end
abbrev pub one_stream : Carried
one_stream = wire_with (None ∷ Some 1 ∷ Some 2 ∷ Some 3 ∷ Some 4 ∷ Some 5 ∷ []) (5 ∷ [])

pub record WorkedWindows : Type 0 where
  -- windows of 4 rows, one from each second row on, over two copies that have their turns 3 cycles apart: the first one
  -- is full with tuple 4; two are open at the end and end in their turns; the next stream begins anew
  pub overlap : visits_in 4 2 2 3 two_streams 18 ≡
      (5, (1 ∷ []) ∷ (2 ∷ []) ∷ (3 ∷ []) ∷ (4 ∷ []) ∷ [])
      ∷ (7, (3 ∷ []) ∷ (4 ∷ []) ∷ (5 ∷ []) ∷ [])
      ∷ (10, (5 ∷ []) ∷ [])
      ∷ (15, (9 ∷ []) ∷ [])
      ∷ []
  -- windows of 2 rows, one from each third row on: tuple 3 is in none
  pub gaps : visits_in 2 3 1 1 one_stream 12 ≡
      (3, (1 ∷ []) ∷ (2 ∷ []) ∷ [])
      ∷ (6, (4 ∷ []) ∷ (5 ∷ []) ∷ [])
      ∷ []
  -- windows of 2 rows, one from each row on: the end comes with the tuple that fills the fourth one and opens the fifth
  pub each : visits_in 2 1 2 1 one_stream 12 ≡
      (3, (1 ∷ []) ∷ (2 ∷ []) ∷ [])
      ∷ (4, (2 ∷ []) ∷ (3 ∷ []) ∷ [])
      ∷ (5, (3 ∷ []) ∷ (4 ∷ []) ∷ [])
      ∷ (6, (4 ∷ []) ∷ (5 ∷ []) ∷ [])
      ∷ (7, (5 ∷ []) ∷ [])
      ∷ []
