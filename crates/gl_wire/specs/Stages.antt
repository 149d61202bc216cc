-- Registers behind buses, lines and wires: a stage. Each record says all of what a function adds to a netlist.
use Rattle.std.specs.Prelude.{◌≡◌, ℕ, suc, List, length}
use Rattle.std.specs.List.{sum}
use Rattle.gl_net.specs.declared.node.Bus.{Bus}
use Rattle.gl_net.specs.declared.node.Bit.{Bit}
use Rattle.gl_net.specs.Net.{Net, Run, IsRun, IsBus, IsBit, Keeps}
use Rattle.gl_wire.specs.declared.wire.Wire.{Wire}
use Rattle.gl_wire.specs.Costs.{Costs, stages_behind}
use Rattle.gl_wire.specs.Wire.{AreBuses, IsWire, carried, line_at, row_at, widths}
use Rattle.gl_wire.specs.Shapes.{IsDelayed}

-- a register that carries in each cycle what the bus carried in the one before; what it carries in cycle 0 is not known
pub record IsLaterBus (old new : Net) (source later : Bus) : Type 0 where
  pub keeps : Keeps old new
  pub cost : Costs old new (record { nodes = 1; registers = source.width; memories = 0 })
  pub bus : IsBus new later
  pub same_width : later.width ≡ source.width
  pub value : (run : Run) → IsRun new run → (t : ℕ) → run.at (suc (suc t)) later.node ≡ run.at (suc t) source.node

-- a line that shows what another showed one cycle before, and what its register costs
pub record IsLaterLine (old new : Net) (source later : Bit) : Type 0 where
  pub keeps : Keeps old new
  pub cost : Costs old new (record { nodes = 1; registers = 1; memories = 0 })
  pub bit : IsBit new later
  pub line : (run : Run) → IsRun new run → (t : ℕ) → line_at run later (suc t) ≡ line_at run source t

-- registers behind some columns
pub record AreLater (old new : Net) (columns later : List Bus) : Type 0 where
  pub keeps : Keeps old new
  pub cost : Costs old new (record { nodes = length (widths columns); registers = sum (widths columns); memories = 0 })
  pub buses : AreBuses new later
  pub same_widths : widths later ≡ widths columns
  pub row : (run : Run) → IsRun new run → (t : ℕ) → row_at run (suc (suc t)) later ≡ row_at run (suc t) columns

-- a wire so many cycles behind another
pub record IsPad (old new : Net) (m : ℕ) (source later : Wire) : Type 0 where
  pub keeps : Keeps old new
  pub cost : Costs old new (stages_behind m (widths source.columns))
  pub wire : IsWire new later
  pub same_widths : widths later.columns ≡ widths source.columns
  pub delayed : (run : Run) → IsRun new run → IsDelayed m (carried run source) (carried run later)
