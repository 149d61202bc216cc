-- Ticks on a line beside a wire: the times of the wire's tuples, and how many ticks there are, since the end before.
use Rattle.std.specs.Prelude.{◌≡◌, ℕ, zero, suc, ◌+◌, List, [], ◌∷◌, ◌++◌, Option, Some, None, Bool, true, if◌then◌else◌}
use Rattle.gl_values.specs.Results.{Row}
use Rattle.gl_bits.specs.Words.{bit}
use Rattle.gl_wire.specs.Beats.{Beats}
use Rattle.gl_wire.specs.Wire.{Carried}

-- the ticks since the end before this cycle, its own left out; a tick comes before the tuple of its cycle
abbrev pub ticks_before : (ℕ → Bool) → Carried → ℕ → ℕ
ticks_before tick a zero = 0
ticks_before tick a (suc c) =
    if a.ends c then 0 else (if tick c then suc (ticks_before tick a c) else ticks_before tick a c)

-- the ticks since the end before, the cycle's own among them
abbrev pub ticks_at : (ℕ → Bool) → Carried → ℕ → ℕ
ticks_at tick a c = if tick c then suc (ticks_before tick a c) else ticks_before tick a c

-- the time of a tuple, where one comes
abbrev pub times_of : Option Row → ℕ → List ℕ
times_of None time = []
times_of (Some r) time = time ∷ []

-- the times of the tuples since the end before, the cycle's own left out
abbrev pub times_before : (ℕ → Bool) → Carried → ℕ → List ℕ
times_before tick a zero = []
times_before tick a (suc c) =
    if a.ends c then [] else times_before tick a c ++ times_of (a.tuple c) (ticks_at tick a c)

-- the times of the tuples since the end before, the cycle's own among them
abbrev pub times_at : (ℕ → Bool) → Carried → ℕ → List ℕ
times_at tick a c = times_before tick a c ++ times_of (a.tuple c) (ticks_at tick a c)

-- the cycles of the tuples since the end before, the cycle's own left out
abbrev pub cycles_before : Carried → ℕ → List ℕ
cycles_before a zero = []
cycles_before a (suc c) = if a.ends c then [] else cycles_before a c ++ times_of (a.tuple c) c

-- the cycles of the tuples since the end before, the cycle's own among them
abbrev pub cycles_at : Carried → ℕ → List ℕ
cycles_at a c = cycles_before a c ++ times_of (a.tuple c) c

-- the ticks of n cycles from this one on
abbrev pub ticks_in : (ℕ → Bool) → ℕ → ℕ → ℕ
ticks_in tick c zero = 0
ticks_in tick c (suc n) = bit (tick c) + ticks_in tick (suc c) n

-- each tick stands at a beat
pub record TicksFit (tick : ℕ → Bool) (beats : Beats) : Type 0 where
  pub each : (c : ℕ) → tick c ≡ true → (e : Bool) × (beats c ≡ Some e)
