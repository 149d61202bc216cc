-- A union as lines and buses of a netlist carry it.
use Rattle.std.specs.Prelude.{◌≡◌, ℕ, suc, List, length, Bool, false, not, ◌&&◌, ◌||◌, if◌then◌else◌, nat_eq}
use Rattle.gl_net.specs.declared.node.Bus.{Bus}
use Rattle.gl_net.specs.declared.node.Bit.{Bit}
use Rattle.gl_net.specs.Net.{Net, Run, IsRun, IsBit, Keeps}
use Rattle.gl_wire.specs.declared.wire.Wire.{Wire}
use Rattle.gl_wire.specs.Costs.{Costs, nodes_alone}
use Rattle.gl_wire.specs.Wire.{AreBuses, IsWire, carried, widths, line_at, row_at}
use Rattle.gl_queue.specs.declared.merge.Merged.{Merged}
use Rattle.gl_queue.specs.Costs.{cost_of_merging}
use Rattle.gl_queue.specs.Merging.{IsMerging}

-- one row or the other
pub record AreChosen (run : Run) (test : Bit) (ys ns outs : List Bus) : Type 0 where
  pub is : (t : ℕ) → row_at run t outs ≡ (if nat_eq (run.at t test.node) 1 then row_at run t ys else row_at run t ns)

-- columns chosen one by one
pub record AreChosenOf (old new : Net) (test : Bit) (ys ns outs : List Bus) : Type 0 where
  pub keeps : Keeps old new
  pub cost : Costs old new (nodes_alone (length (widths ys)))
  pub buses : AreBuses new outs
  pub same_widths : widths outs ≡ widths ys
  pub chosen : (run : Run) → IsRun new run → AreChosen run test ys ns outs

-- an end that waits for both ends and both queues
pub record AreWaiting (run : Run) (left_end right_end left_some right_some end : Bit) : Type 0 where
  pub left : ℕ → Bool
  pub right : ℕ → Bool
  pub leaves : (t : ℕ)
      → line_at run end t ≡ (left t && right t) && not (line_at run left_some t) && not (line_at run right_some t)
  pub left_first : left 0 ≡ false
  pub right_first : right 0 ≡ false
  pub left_next : (t : ℕ) → left (suc t) ≡ line_at run left_end t || (left t && not (line_at run end t))
  pub right_next : (t : ℕ) → right (suc t) ≡ line_at run right_end t || (right t && not (line_at run end t))

-- the end of a union, made of two flags: both ends have come, and both queues are empty
pub record IsEndOf (old new : Net) (left_end right_end left_some right_some end : Bit) : Type 0 where
  pub keeps : Keeps old new
  pub cost : Costs old new (record { nodes = 9; registers = 2; memories = 0 })
  pub bit : IsBit new end
  pub waits : (run : Run) → IsRun new run → AreWaiting run left_end right_end left_some right_some end

-- two wires merged through queues of so many places
pub record IsMergedOf (old new : Net) (depth_a depth_b : ℕ) (a b : Wire) (o : Merged) : Type 0 where
  pub keeps : Keeps old new
  pub cost : Costs old new (cost_of_merging depth_a depth_b (widths a.columns))
  pub wire : IsWire new o.wire
  pub same_widths : widths o.wire.columns ≡ widths a.columns
  pub passed : IsBit new o.passed
  pub merging : (run : Run) → IsRun new run
      → IsMerging depth_a depth_b (line_at run o.passed) (carried run a) (carried run b) (carried run o.wire)
