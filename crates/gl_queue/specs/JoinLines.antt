-- A joiner as lines and buses of a netlist carry it.
use Rattle.std.specs.Prelude.{◌≡◌, ℕ, suc, ◌*◌, List, ◌++◌, length, Bool, true, false, not, ◌&&◌, ◌||◌, if◌then◌else◌}
use Rattle.std.specs.List.{sum}
use Rattle.gl_net.specs.declared.node.Bus.{Bus}
use Rattle.gl_net.specs.declared.node.Bit.{Bit}
use Rattle.gl_net.specs.Net.{Net, Run, IsRun, IsBit, IsBus, Keeps}
use Rattle.gl_wire.specs.declared.wire.Wire.{Wire}
use Rattle.gl_wire.specs.Costs.{Costs, CostsAtMost}
use Rattle.gl_wire.specs.Wire.{AreBuses, Carried, IsWire, carried, line_at, row_at, widths}
use Rattle.gl_wire.specs.Pace.{Follows}
use Rattle.gl_queue.specs.Costs.{cost_of_joining}
use Rattle.gl_queue.specs.Joining.{IsBeside, IsJoiner}

-- a register that takes a column where a line is 1
pub record IsKept (old new : Net) (valid : Bit) (column kept : Bus) : Type 0 where
  pub keeps : Keeps old new
  pub cost : Costs old new (record { nodes = 2; registers = column.width; memories = 0 })
  pub bus : IsBus new kept
  pub same_width : kept.width ≡ column.width
  pub value : (run : Run) → IsRun new run → (t : ℕ)
      → run.at (suc (suc t)) kept.node ≡ (if line_at run valid (suc t) then run.at (suc t) column.node
      else run.at (suc t) kept.node)

-- registers that take a row where a line is 1, and keep it otherwise
pub record AreKept (old new : Net) (valid : Bit) (columns kept : List Bus) : Type 0 where
  pub keeps : Keeps old new
  pub cost : Costs old new (record {
    nodes = 2 * length (widths columns);
    registers = sum (widths columns);
    memories = 0;
  })
  pub buses : AreBuses new kept
  pub same_widths : widths kept ≡ widths columns
  pub row : (run : Run) → IsRun new run → (t : ℕ)
      → row_at run (suc (suc t)) kept ≡ (if line_at run valid (suc t) then row_at run (suc t) columns
      else row_at run (suc t) kept)

-- flags that wait for both ends
pub record AreWaitingBoth (run : Run) (left_end right_end now : Bit) : Type 0 where
  pub left : ℕ → Bool
  pub right : ℕ → Bool
  pub is : (t : ℕ) → line_at run now t ≡ left t && right t
  pub left_first : left 0 ≡ false
  pub right_first : right 0 ≡ false
  pub left_next : (t : ℕ) → left (suc t) ≡ line_at run left_end t || (left t && not (left t && right t))
  pub right_next : (t : ℕ) → right (suc t) ≡ line_at run right_end t || (right t && not (left t && right t))

-- a bit that tells that both ends have come, made of two flags
pub record AreWaitingOf (old new : Net) (left_end right_end now : Bit) : Type 0 where
  pub keeps : Keeps old new
  pub cost : Costs old new (record { nodes = 7; registers = 2; memories = 0 })
  pub bit : IsBit new now
  pub waits : (run : Run) → IsRun new run → AreWaitingBoth run left_end right_end now

-- two wires joined
pub record IsJoinedOf (old new : Net) (a b o : Wire) : Type 0 where
  pub keeps : Keeps old new
  pub cost : Costs old new (cost_of_joining (widths a.columns) (widths b.columns))
  pub wire : IsWire new o
  pub same_widths : widths o.columns ≡ widths a.columns ++ widths b.columns
  pub joins : (run : Run) → IsRun new run → IsJoiner (carried run a) (carried run b) (carried run o)

-- two sides, in step or not
abbrev pub JoinsSides : Bool → Carried → Carried → Carried → Type 0
JoinsSides true a b o = IsBeside a b o × Follows 0 a o
JoinsSides false a b o = IsJoiner a b o

-- two sides side by side, in step or joined at the end
pub record AreSides (old new : Net) (in_step : Bool) (a b o : Wire) : Type 0 where
  pub keeps : Keeps old new
  pub cost : CostsAtMost old new (cost_of_joining (widths a.columns) (widths b.columns))
  pub wire : IsWire new o
  pub same_widths : widths o.columns ≡ widths a.columns ++ widths b.columns
  pub joins : (run : Run) → IsRun new run → JoinsSides in_step (carried run a) (carried run b) (carried run o)
