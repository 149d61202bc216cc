-- What comes at a front of windows of time: the ticks of a line beside a wire.
use Rattle.std.specs.Prelude.{◌≡◌, ◌⊎◌, ℕ, Bool, true}
use Rattle.gl_wire.specs.Apart.{Carries}
use Rattle.gl_wire.specs.Ticks.{ticks_in}
use Rattle.gl_wire.specs.Wire.{Carried}
use Rattle.gl_wire.specs.Coming.{Coming}

-- ticks come beside a wire's tuples and ends, and they are the units
abbrev pub by_ticks : (ℕ → Bool) → Carried → Coming
by_ticks tick a = record { comes = λ c. (tick c ≡ true) ⊎ Carries a c; units = ticks_in tick }
