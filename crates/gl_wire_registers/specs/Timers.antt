-- A timer, and a line of ends that comes late.
use Rattle.std.specs.Prelude.{◌≡◌, ℕ, zero, suc, ◌+◌, ◌-◌, ◌<◌, ◌≤◌, Bool, true, false, not, ◌&&◌, nat_eq}
use Rattle.gl_net.specs.declared.node.Bit.{Bit}
use Rattle.gl_net.specs.Net.{Net, Run, IsRun, IsBit, Keeps}
use Rattle.gl_wire.specs.Costs.{Costs}
use Rattle.gl_wire.specs.Wire.{line_at}
use Rattle.gl_wire_registers.specs.Held.{with_registers}
use Rattle.gl_wire_registers.specs.Numbers.{bits_below}

-- a timer: a line sets it, and some cycles after it was set it fires
pub record Timer : Type 0 where
  pub on : Bool
  pub left_over : ℕ

-- a timer that is on fires when no cycle is left
abbrev pub fires : Timer → Bool
fires t = t.on && nat_eq t.left_over 0

-- an end starts the timer anew; otherwise it counts down, and goes off once it has fired
abbrev pub ticked : ℕ → Bool → Timer → Timer
ticked n true t = record { on = true; left_over = n }
ticked n false t = record { on = t.on && not (nat_eq t.left_over 0); left_over = t.left_over - 1 }

-- the timer before each cycle, off at first
abbrev pub timer_at : ℕ → (ℕ → Bool) → ℕ → Timer
timer_at n ends zero = record { on = false; left_over = 0 }
timer_at n ends (suc c) = ticked n (ends c) (timer_at n ends c)

-- the line of a timer that runs so many cycles
pub record IsTimer (old new : Net) (set : Bit) (cycles : ℕ) (out : Bit) : Type 0 where
  pub keeps : Keeps old new
  pub cost : Costs old new (with_registers 20 (bits_below (cycles + 1) + 1))
  pub few : bits_below (cycles + 1) ≤ 32
  pub bit : IsBit new out
  pub line : (run : Run) → IsRun new run → (t : ℕ) → line_at run out t ≡ fires (timer_at cycles (line_at run set) t)

-- a line so many registers behind another
pub record IsLaterBy (old new : Net) (n : ℕ) (source out : Bit) : Type 0 where
  pub keeps : Keeps old new
  pub cost : Costs old new (with_registers n n)
  pub bit : IsBit new out
  pub first : (run : Run) → IsRun new run → (t : ℕ) → t < n → line_at run out t ≡ false
  pub later : (run : Run) → IsRun new run → (t : ℕ) → line_at run out (t + n) ≡ line_at run source t

-- where any two ends are more than so many cycles apart, the line is that of the ends, with this delay
pub record IsClose (apart delay : ℕ) (ends close : ℕ → Bool) : Type 0 where
  pub before : (c : ℕ) → c < delay → close c ≡ false
  pub later : ((u d : ℕ) → ends u ≡ true → ends d ≡ true → u < d → u + apart < d) → (c : ℕ) → close (c + delay) ≡ ends c

-- a line that follows the ends on another after a fixed delay, where they are far enough apart, and what it costs
pub record IsCloseLine (old new : Net) (cycles more : ℕ) (source out : Bit) : Type 0 where
  pub keeps : Keeps old new
  pub cost : Costs old new (with_registers (20 + more) (bits_below (cycles + 1) + 1 + more))
  pub few : bits_below (cycles + 1) ≤ 32
  pub bit : IsBit new out
  pub close : (run : Run) → IsRun new run → IsClose cycles (cycles + 1 + more) (line_at run source) (line_at run out)
