-- Turns as lines and buses of a netlist carry them.
use Rattle.std.specs.Prelude.{◌≡◌, ℕ, ◌+◌, ◌*◌, List, length}
use Rattle.std.specs.List.{sum}
use Rattle.gl_net.specs.Net.{Net, Run, IsRun, Keeps}
use Rattle.gl_wire.specs.declared.wire.Wire.{Wire}
use Rattle.gl_wire.specs.Costs.{Cost, Costs}
use Rattle.gl_wire.specs.Shapes.{IsDelayed}
use Rattle.gl_wire.specs.Wire.{IsWire, carried, widths}
use Rattle.gl_turns.specs.Turns.{together}

-- a gate for the valid line, a choice for each column, and a register behind each line and column
abbrev pub cost_of_turn : List ℕ → Cost
cost_of_turn columns = record {
  nodes = 2 * length columns + 3;
  registers = sum columns + 2;
  memories = 0;
}

-- two wires on one, a cycle later
pub record IsTurnOf (old new : Net) (a b o : Wire) : Type 0 where
  pub keeps : Keeps old new
  pub cost : Costs old new (cost_of_turn (widths a.columns))
  pub wire : IsWire new o
  pub same_widths : widths o.columns ≡ widths a.columns
  pub turns : (run : Run) → IsRun new run → IsDelayed 1 (together (carried run a) (carried run b)) (carried run o)
