-- Where the streams of slots begin: with the row that takes a slot.
use Rattle.std.specs.Prelude.{◌≡◌, ℕ, zero, suc, Some, None, Bool, false, not, ◌&&◌, ◌||◌, is_some, nat_eq}
use Rattle.std.specs.List.{list_any}
use Rattle.gl_values.specs.Results.{Row}
use Rattle.gl_wire.specs.Wire.{Carried}
use Rattle.gl_slots.specs.Slots.{freed, keys_at, slot_at, slot_ends_at, slot_takes, slots_at}

-- whether a slot takes a row in a cycle, and whether it ends
abbrev pub takes_row_at : ℕ → (Row → ℕ) → ℕ → Carried → ℕ → ℕ → Bool
takes_row_at count key stride a k c =
    is_some (slot_takes key (a.ends c) (a.tuple c) (keys_at count key stride a c) (slots_at count key stride a c) k)

abbrev pub ends_at : ℕ → (Row → ℕ) → ℕ → Carried → ℕ → ℕ → Bool
ends_at count key stride a k c = slot_ends_at count key stride a c && nat_eq k (slot_at count key stride a c)

-- whether a slot's stream is open at the beginning of a cycle: it had a row since its last end
unfoldable pub is_begun : ℕ → (Row → ℕ) → ℕ → Carried → ℕ → ℕ → Bool
is_begun count key stride a k zero = false
is_begun count key stride a k (suc c) =
    (takes_row_at count key stride a k c || is_begun count key stride a k c) && not (ends_at count key stride a k c)

-- lines that tell of the row that came last, up to this cycle, whether its key was none of the slots'
pub record TellsNew (count : ℕ) (key : Row → ℕ) (stride : ℕ) (a : Carried) (new : ℕ → Bool) : Type 0 where
  pub comes : (c : ℕ) (r : Row) → a.tuple c ≡ Some r
      → new c ≡ not (list_any (nat_eq (key r)) (freed (slots_at count key stride a c)))
  pub stays : (c : ℕ) → a.tuple (suc c) ≡ None → new (suc c) ≡ new c
