-- The parts of a divider, and what each adds to a netlist.
use Rattle.std.specs.Prelude.{◌≡◌, ◌≢◌, ℕ, suc, ◌+◌, ◌*◌, ◌/◌, ◌<◌, false, nat_le, not}
use Rattle.gl_net.specs.declared.node.Bus.{Bus}
use Rattle.gl_net.specs.declared.node.Bit.{Bit}
use Rattle.gl_net.specs.Net.{Net, Run, IsRun, IsBus, IsBit, Keeps}
use Rattle.gl_wire.specs.Costs.{Cost, Costs, CostsAtMost, nodes_alone}
use Rattle.gl_wire.specs.Wire.{line_at}
use Rattle.gl_divide.specs.declared.digit.Digit.{Digit}
use Rattle.gl_divide.specs.declared.stage.Stage.{Stage}
use Rattle.gl_divide.specs.declared.divider.Quotient.{Quotient}
use Rattle.gl_divide.specs.Division.{Division, digits_on, fits, highest, left, one_digit, undivided, with_bit}

-- the highest bit of a bus
pub record IsHighest (old new : Net) (bus : Bus) (out : Bit) : Type 0 where
  pub keeps : Keeps old new
  pub cost : Costs old new (nodes_alone 1)
  pub bit : IsBit new out
  pub line : (run : Run) → IsRun new run → (t : ℕ)
      → line_at run out (suc t) ≡ highest bus.width (run.at (suc t) bus.node)

-- a line that is 0, behind reset, where another is 1
pub record IsTurned (old new : Net) (source out : Bit) : Type 0 where
  pub keeps : Keeps old new
  pub cost : Costs old new (nodes_alone 1)
  pub bit : IsBit new out
  pub line : (run : Run) → IsRun new run → (t : ℕ) → line_at run out (suc t) ≡ not (line_at run source (suc t))

-- a bus one place higher, with a line behind it
pub record IsShifted (old new : Net) (source : Bus) (low : Bit) (out : Bus) : Type 0 where
  pub keeps : Keeps old new
  pub cost : CostsAtMost old new (nodes_alone 2)
  pub bus : IsBus new out
  pub same_width : out.width ≡ source.width
  pub value : (run : Run) → IsRun new run → (t : ℕ)
      → run.at (suc t) out.node ≡ with_bit source.width (run.at (suc t) source.node) (line_at run low (suc t))

-- whether one bus carries at most what another does
pub record IsAtMost (old new : Net) (less more : Bus) (out : Bit) : Type 0 where
  pub keeps : Keeps old new
  pub cost : Costs old new (nodes_alone 1)
  pub bit : IsBit new out
  pub line : (run : Run) → IsRun new run → (t : ℕ)
      → line_at run out (suc t) ≡ nat_le (run.at (suc t) less.node) (run.at (suc t) more.node)

-- one digit of the quotient, and what is left, wherever less than the bottom was left before
pub record IsDigit (old new : Net) (rest bottom : Bus) (next : Bit) (d : Digit) : Type 0 where
  pub keeps : Keeps old new
  pub cost : CostsAtMost old new (nodes_alone 8)
  pub bit : IsBit new d.fits
  pub bus : IsBus new d.left
  pub same_width : d.left.width ≡ rest.width
  pub line : (run : Run) → IsRun new run → (t : ℕ) → run.at (suc t) rest.node < run.at (suc t) bottom.node
      → line_at run d.fits (suc t) ≡ fits (run.at (suc t) rest.node) (run.at (suc t) bottom.node)
      (line_at run next (suc t))
  pub value : (run : Run) → IsRun new run → (t : ℕ) → run.at (suc t) rest.node < run.at (suc t) bottom.node
      → run.at (suc t) d.left.node ≡ left (run.at (suc t) rest.node) (run.at (suc t) bottom.node)
      (line_at run next (suc t))

-- the buses and the line of a stage are in the netlist, for a top and a bottom of these widths
pub record IsStage (net : Net) (top_width bottom_width : ℕ) (s : Stage) : Type 0 where
  pub digits : IsBus net s.digits
  pub same_digits : s.digits.width ≡ top_width
  pub rest : IsBus net s.rest
  pub same_rest : s.rest.width ≡ bottom_width
  pub bottom : IsBus net s.bottom
  pub same_bottom : s.bottom.width ≡ bottom_width
  pub go : IsBit net s.go

-- the division at a stage in a cycle
abbrev pub division_at : Run → ℕ → Stage → Division
division_at run t s =
    record { digits = run.at t s.digits.node; rest = run.at t s.rest.node; bottom = run.at t s.bottom.node }

-- what a further stage costs
abbrev pub cost_of_step : ℕ → ℕ → Cost
cost_of_step top_width bottom_width = record { nodes = 15; registers = top_width + 2 * bottom_width + 1; memories = 0 }

-- the first stage and so many further ones
abbrev pub cost_of_stages : ℕ → ℕ → ℕ → Cost
cost_of_stages n top_width bottom_width = record {
  nodes = 4 + 15 * n;
  registers = top_width + bottom_width + 1 + n * (top_width + 2 * bottom_width + 1);
  memories = 0;
}

-- a stage one cycle behind another, and one digit wherever less than the bottom was left before
pub record IsStep (old new : Net) (top_width bottom_width : ℕ) (s d : Stage) : Type 0 where
  pub keeps : Keeps old new
  pub cost : CostsAtMost old new (cost_of_step top_width bottom_width)
  pub stage : IsStage new top_width bottom_width d
  pub line : (run : Run) → IsRun new run → (t : ℕ) → line_at run d.go (suc t) ≡ line_at run s.go t
  pub division : (run : Run) → IsRun new run → (t : ℕ) → run.at (suc t) s.rest.node < run.at (suc t) s.bottom.node
      → division_at run (suc (suc t)) d ≡ one_digit top_width (division_at run (suc t) s)

-- a line so many cycles behind another, and low before
pub record IsLineBehind (run : Run) (cycles : ℕ) (source out : Bit) : Type 0 where
  pub before : (c : ℕ) → c < cycles → line_at run out c ≡ false
  pub line : (t : ℕ) → line_at run out (t + cycles) ≡ line_at run source t

-- the stage behind so many digits, each a cycle, of each division whose bottom is not 0
pub record IsBehindDigits (old new : Net) (n : ℕ) (top bottom : Bus) (go : Bit) (s : Stage) : Type 0 where
  pub keeps : Keeps old new
  pub cost : CostsAtMost old new (cost_of_stages n top.width bottom.width)
  pub stage : IsStage new top.width bottom.width s
  pub line : (run : Run) → IsRun new run → IsLineBehind run (suc n) go s.go
  pub division : (run : Run) → IsRun new run → (t : ℕ) → run.at (suc t) bottom.node ≢ 0
      → division_at run (suc t + suc n) s ≡ digits_on top.width n
      (undivided (run.at (suc t) top.node) (run.at (suc t) bottom.node))

-- a divider: for each cycle whose bottom is not 0 the quotient, as many cycles later as the top has bits and one more;
-- what tells that it is ready is so many cycles behind what asks for it, however close these are, and low otherwise
pub record IsDivider (old new : Net) (top bottom : Bus) (go : Bit) (q : Quotient) : Type 0 where
  pub keeps : Keeps old new
  pub cost : CostsAtMost old new (cost_of_stages top.width top.width bottom.width)
  pub value : IsBus new q.value
  pub same_width : q.value.width ≡ top.width
  pub ready : IsBit new q.ready
  pub quotient : (run : Run) → IsRun new run → (t : ℕ) → run.at (suc t) bottom.node ≢ 0
      → run.at (suc t + (top.width + 1)) q.value.node ≡ run.at (suc t) top.node / run.at (suc t) bottom.node
  pub line : (run : Run) → IsRun new run → IsLineBehind run (top.width + 1) go q.ready
