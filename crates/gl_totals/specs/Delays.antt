-- A bus and a line so many cycles behind another.
use Rattle.std.specs.Prelude.{◌≡◌, ℕ, suc, ◌+◌, ◌*◌}
use Rattle.gl_net.specs.declared.node.Bus.{Bus}
use Rattle.gl_net.specs.declared.node.Bit.{Bit}
use Rattle.gl_net.specs.Net.{Net, Run, IsRun, IsBus, IsBit, Keeps}
use Rattle.gl_divide.specs.Divider.{IsLineBehind}
use Rattle.gl_wire.specs.Costs.{Costs}

-- a bus that carries what another carried some cycles before, and what its registers cost
pub record IsBusBehind (old new : Net) (cycles : ℕ) (source out : Bus) : Type 0 where
  pub keeps : Keeps old new
  pub cost : Costs old new (record { nodes = cycles; registers = source.width * cycles; memories = 0 })
  pub bus : IsBus new out
  pub same_width : out.width ≡ source.width
  pub value : (run : Run) → IsRun new run → (t : ℕ) → run.at (suc t + cycles) out.node ≡ run.at (suc t) source.node

-- a line that shows what another showed some cycles before, and what its registers cost
pub record IsBitBehind (old new : Net) (cycles : ℕ) (source out : Bit) : Type 0 where
  pub keeps : Keeps old new
  pub cost : Costs old new (record { nodes = cycles; registers = cycles; memories = 0 })
  pub bit : IsBit new out
  pub line : (run : Run) → IsRun new run → IsLineBehind run cycles source out
