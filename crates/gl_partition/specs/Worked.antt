-- Worked streams before a front of windows of each key, with the visits of its copies as they were worked out by hand.
use Rattle.std.specs.Prelude.{◌≡◌, ℕ, zero, suc, ◌/◌, ◌%◌, List, [], ◌∷◌, Option, Some, None, Bool, false, ◌&&◌, ◌||◌, nat_eq, slice_index}
use Rattle.gl_values.specs.Results.{Row}
use Rattle.gl_wire.specs.Wire.{Carried}
use Rattle.gl_wire.specs.Lift.{visits}
use Rattle.gl_partition.specs.Machine.{Numbers, closes, comes, due, kept, mid, oldest, taken, who_ends}

-- the tuples of these cycles, from cycle 0 on
abbrev pub tuples_in : List (Option Row) → ℕ → Option Row
tuples_in [] c = None
tuples_in (x ∷ xs) zero = x
tuples_in (x ∷ xs) (suc c) = tuples_in xs c

-- ends in these cycles
abbrev pub ends_in : List ℕ → ℕ → Bool
ends_in [] c = false
ends_in (x ∷ xs) c = nat_eq c x || ends_in xs c

-- a wire with these tuples and ends
abbrev pub wire_with : List (Option Row) → List ℕ → Carried
wire_with tuples ends = record { tuple = tuples_in tuples; ends = ends_in ends }

-- a row of a key and one more number; the key stands first
abbrev pub row_with : ℕ → ℕ → Row
row_with key x = key ∷ x ∷ []

-- two slots with windows of their own
abbrev pub two_slots : ℕ → ℕ → ℕ → ℕ → Numbers
two_slots size advance copies stride = record {
  slots = 2;
  key = λ r. slice_index r 0;
  size = size;
  advance = advance;
  copies = copies;
  stride = stride;
}

-- what the wire of a copy carries: copy k stands in slot k / copies
abbrev pub copy_tuple : Numbers → Carried → ℕ → ℕ → Option Row
copy_tuple n a k zero = None
copy_tuple n a k (suc c) =
    let i = k / n.copies in
    taken n.copies (a.ends c) (due n a i c) (comes n a i c) (kept n a i c) (mid n a i c) (k % n.copies)

abbrev pub copy_end : Numbers → Carried → ℕ → ℕ → Bool
copy_end n a k zero = false
copy_end n a k (suc c) = let i = k / n.copies in closes n a i c && nat_eq (k % n.copies) (oldest n a i c)

-- the cycles and the streams of the visits in the first m cycles
abbrev pub visits_in : Numbers → Carried → ℕ → List (ℕ × List Row)
visits_in n a m = visits (who_ends n a) (λ k. record { tuple = copy_tuple n a k; ends = copy_end n a k }) 0 m

-- keys 5, 7, 5, 7 and 5, the last one with the end
abbrev pub in_turns : Carried
in_turns =
    wire_with
    (None ∷ Some (row_with 5 1) ∷ Some (row_with 7 2) ∷ Some (row_with 5 3) ∷ Some (row_with 7 4) ∷ Some (row_with 5 5)
    ∷ [])
    (5 ∷ [])

-- keys 5, 7, 7, the last one with the end; much later keys 7 and 5, and the end alone
abbrev pub two_streams : Carried
two_streams =
    wire_with
    (None ∷ Some (row_with 5 1) ∷ Some (row_with 7 2) ∷ Some (row_with 7 3) ∷ None ∷ None ∷ None ∷ None ∷ None ∷ None
    ∷ None ∷ None ∷ Some (row_with 7 4) ∷ Some (row_with 5 5) ∷ [])
    (3 ∷ 14 ∷ [])

-- keys 5, 7, 5, 5 and 7, the last one with the end
abbrev pub overlapping : Carried
overlapping =
    wire_with
    (None ∷ Some (row_with 5 1) ∷ Some (row_with 7 2) ∷ Some (row_with 5 3) ∷ Some (row_with 5 4) ∷ Some (row_with 7 5)
    ∷ [])
    (5 ∷ [])

pub record WorkedPartitions : Type 0 where
  -- windows of 2 rows of a key, one from each second row of it on: two fill up; the third one has its slot's turn
  pub filled : visits_in (two_slots 2 2 1 1) in_turns 12 ≡
      (4, row_with 5 1 ∷ row_with 5 3 ∷ [])
      ∷ (5, row_with 7 2 ∷ row_with 7 4 ∷ [])
      ∷ (7, row_with 5 5 ∷ [])
      ∷ []
  -- the last tuple fills a window up, which ends before all turns, 3 cycles apart; the next stream finds the slots free
  pub with_end : visits_in (two_slots 2 2 1 3) two_streams 22 ≡
      (4, row_with 7 2 ∷ row_with 7 3 ∷ [])
      ∷ (7, row_with 5 1 ∷ [])
      ∷ (18, row_with 7 4 ∷ [])
      ∷ (21, row_with 5 5 ∷ [])
      ∷ []
  -- windows of 3 rows of a key, one from each second row of it on: a slot has two turns, and the last tuple goes to its
  -- own slot's window in its turn
  pub overlap : visits_in (two_slots 3 2 2 1) overlapping 14 ≡
      (5, row_with 5 1 ∷ row_with 5 3 ∷ row_with 5 4 ∷ [])
      ∷ (7, row_with 5 4 ∷ [])
      ∷ (9, row_with 7 2 ∷ row_with 7 5 ∷ [])
      ∷ []
