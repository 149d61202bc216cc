-- The keys of slots: numbers that stand for them, a key in front of each row, and the line of further keys.
use Rattle.std.specs.Prelude.{◌≡◌, ℕ, ◌+◌, ◌*◌, ◌<◌, ◌∷◌, Option, Some, None, Bool, false, slice_get}
use Rattle.gl_values.specs.Results.{Row}
use Rattle.gl_wire.specs.Apart.{Carries}
use Rattle.gl_wire.specs.Spills.{Lines}
use Rattle.gl_wire.specs.Timed.{Rested}
use Rattle.gl_wire.specs.Wire.{Carried}
use Rattle.gl_slots.specs.Slots.{slots_at}

-- whatever comes finds the flush of each end before it over: in so many cycles each slot has its turn
abbrev pub AwaitsTurns : ℕ → ℕ → Carried → Type 0
AwaitsTurns count stride a = (c : ℕ) → Carries a c → Rested (count * stride) a c

-- numbers, for each slot and cycle, that are the keys of the slots that are used, so many cycles late
pub record AreKeys (count : ℕ) (key : Row → ℕ) (stride late : ℕ) (a : Carried) (keys : ℕ → ℕ → ℕ) : Type 0 where
  pub shown : (k c d x : ℕ) → k < count → c + late ≡ d → slice_get (slots_at count key stride a c).keys k ≡ Some x
      → keys k d ≡ x

-- a number in front of a tuple
abbrev pub in_front : ℕ → Option Row → Option Row
in_front x None = None
in_front x (Some r) = Some (x ∷ r)

-- a wire with the number of the cycle in front of each tuple
abbrev pub keyed : (ℕ → ℕ) → Carried → Carried
keyed key_at b = record { tuple = λ c. in_front (key_at c) (b.tuple c); ends = b.ends }

-- what copies give, with the key of the slot in front
abbrev pub with_keys : (ℕ → ℕ → ℕ) → (ℕ → Carried) → ℕ → Carried
with_keys keys outs k = keyed (keys k) (outs k)

-- a line that tells of rows of further keys, and no queue
abbrev pub line_of_further : (ℕ → Bool) → Lines
line_of_further further = record { passed = λ c. false; further = further }
