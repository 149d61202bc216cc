-- Worked streams before a front of groups, with the visits of its slots as they were worked out by hand.
use Rattle.std.specs.Prelude.{◌≡◌, ℕ, zero, suc, List, [], ◌∷◌, map, Option, Some, None, Bool, false, ◌&&◌, ◌||◌, nat_eq, slice_get, slice_index, if◌then◌else◌}
use Rattle.gl_values.specs.Results.{Row}
use Rattle.gl_wire.specs.Wire.{Carried}
use Rattle.gl_wire.specs.Lift.{visits}
use Rattle.gl_slots.specs.Slots.{further_line, key_or, keys_at, slot_at, slot_ends_at, slot_or, slot_takes, slots_at, who_slots}

-- the tuples of these cycles, from cycle 0 on
abbrev pub tuples_in : List (Option Row) → ℕ → Option Row
tuples_in [] c = None
tuples_in (x ∷ xs) zero = x
tuples_in (x ∷ xs) (suc c) = tuples_in xs c

-- ends in these cycles
abbrev pub ends_in : List ℕ → ℕ → Bool
ends_in [] c = false
ends_in (x ∷ xs) c = nat_eq c x || ends_in xs c

-- a wire with these tuples and ends
abbrev pub wire_with : List (Option Row) → List ℕ → Carried
wire_with tuples ends = record { tuple = tuples_in tuples; ends = ends_in ends }

-- a row of a key and one more number; the key stands first
abbrev pub row_with : ℕ → ℕ → Row
row_with key x = key ∷ x ∷ []

abbrev pub first : Row → ℕ
first r = slice_index r 0

-- what the wire of a slot's copy carries
abbrev pub copy_tuple : ℕ → ℕ → Carried → ℕ → ℕ → Option Row
copy_tuple count stride a k zero = None
copy_tuple count stride a k (suc c) =
    slot_takes first (a.ends c) (a.tuple c) (keys_at count first stride a c) (slots_at count first stride a c) k

abbrev pub copy_end : ℕ → ℕ → Carried → ℕ → ℕ → Bool
copy_end count stride a k zero = false
copy_end count stride a k (suc c) = slot_ends_at count first stride a c && nat_eq k (slot_at count first stride a c)

-- the key that stands in a visit's slot in the visit's cycle
abbrev pub key_in : ℕ → ℕ → Carried → ℕ → ℕ
key_in count stride a c =
    key_or (slice_get (slots_at count first stride a c).keys (slot_or (who_slots count first stride a c)))

-- the cycles, the keys and the streams of the visits in the first n cycles
abbrev pub visits_in : ℕ → ℕ → Carried → ℕ → List (ℕ × ℕ × List Row)
visits_in count stride a n =
    map (λ v. (v.0, key_in count stride a v.0, v.1))
    (visits (who_slots count first stride a)
    (λ k. record { tuple = copy_tuple count stride a k; ends = copy_end count stride a k }) 0 n)

-- of n cycles from this one on, those in which the line of further keys is 1
abbrev pub further_in : ℕ → ℕ → Carried → ℕ → ℕ → List ℕ
further_in count stride a c zero = []
further_in count stride a c (suc n) =
    if further_line count first stride a c then c ∷ further_in count stride a (suc c) n
    else further_in count stride a (suc c) n

-- keys 5, 7, 5, 9 and then the end alone; later keys 9 and 5, the second one with the end; then an end without rows
abbrev pub three_streams : Carried
three_streams =
    wire_with
    (None ∷ Some (row_with 5 1) ∷ Some (row_with 7 2) ∷ Some (row_with 5 3) ∷ Some (row_with 9 4) ∷ None ∷ None ∷ None
    ∷ None ∷ None ∷ None
    ∷ None ∷ Some (row_with 9 6) ∷ Some (row_with 5 7) ∷ [])
    (5 ∷ 13 ∷ 20 ∷ [])

-- three streams over two slots that have their turns 3 cycles apart
pub record WorkedGroups : Type 0 where
  -- two groups end from the cycle after the end on, and the next stream finds both slots free; the last tuple of a
  -- stream comes with the turn of its slot
  pub visits : visits_in 2 3 three_streams 26 ≡
      (6, 5, row_with 5 1 ∷ row_with 5 3 ∷ [])
      ∷ (9, 7, row_with 7 2 ∷ [])
      ∷ (14, 9, row_with 9 6 ∷ [])
      ∷ (17, 5, row_with 5 7 ∷ [])
      ∷ []
  -- the row of the third key, and no other
  pub further : further_in 2 3 three_streams 0 26 ≡ 5 ∷ []
