-- Tables: the totals of the streams of all slots of a lane.
use Rattle.std.specs.Prelude.{◌≡◌, ℕ, suc, ◌+◌}
use Rattle.gl_algebra.specs.FigureTable.{delay_of_aggs}
use Rattle.gl_net.specs.declared.node.Bit.{Bit}
use Rattle.gl_net.specs.declared.node.Bus.{Bus}
use Rattle.gl_net.specs.Net.{Net, Run, IsRun, IsBit, IsBus, Keeps}
use Rattle.gl_wire.specs.declared.wire.Wire.{Wire}
use Rattle.gl_wire.specs.Costs.{Costs, CostsAtMost}
use Rattle.gl_wire.specs.Shapes.{AtEnds}
use Rattle.gl_wire.specs.Wire.{IsWire, carried, line_at, widths}
use Rattle.gl_wire_lanes.specs.declared.table.TableOut.{TableOut}
use Rattle.gl_wire_lanes.specs.Lanes.{Begins}
use Rattle.gl_wire_lanes.specs.Shares.{lane_of, share, slot_of}
use Rattle.gl_totals.specs.Costs.{cost_of_table}
use Rattle.gl_totals.specs.Totals.{total_row, total_widths}
use Rattle.gl_totals.specs.declared.table.Lines.{Lines}
use Rattle.gl_totals.specs.declared.table.Table.{Table}

-- the lines of a lane, one cycle later
pub record AreLinesBehind (old new : Net) (rows : Wire) (slot : Bus) (first : Bit) (l : Lines) : Type 0 where
  pub keeps : Keeps old new
  pub cost : Costs old new (record { nodes = 4; registers = slot.width + 3; memories = 0 })
  pub row_line : IsBit new l.valid
  pub end_line : IsBit new l.eos
  pub first_line : IsBit new l.first
  pub slot_bus : IsBus new l.slot
  pub same_width : l.slot.width ≡ slot.width
  pub valids : (run : Run) → IsRun new run → (t : ℕ) → line_at run l.valid (suc t) ≡ line_at run rows.valid t
  pub ends : (run : Run) → IsRun new run → (t : ℕ) → line_at run l.eos (suc t) ≡ line_at run rows.eos t
  pub firsts : (run : Run) → IsRun new run → (t : ℕ) → line_at run l.first (suc t) ≡ line_at run first t
  pub slots : (run : Run) → IsRun new run → (t : ℕ) → run.at (suc (suc t)) l.slot.node ≡ run.at (suc t) slot.node

-- where a lane tells where streams begin, the one row of all aggregates at each end of each slot, and whose it is
pub record IsTable (old new : Net) (table : Table) (rows : Wire) (slot : Bus) (first : Bit) (out : TableOut)
    : Type 0 where
  pub keeps : Keeps old new
  pub cost : CostsAtMost old new (cost_of_table slot.width table.kinds.now table.aggs.now)
  pub wire : IsWire new out.wire
  pub same_widths : widths out.wire.columns ≡ total_widths table.kinds.now table.aggs.now
  pub slot_bus : IsBus new out.slot
  pub slot_width : out.slot.width ≡ slot.width
  pub slots : (run : Run) → IsRun new run → (t : ℕ)
      → run.at (suc t + delay_of_aggs table.kinds.now table.aggs.now) out.slot.node ≡ run.at (suc t) slot.node
  pub shares : (run : Run) → IsRun new run → Begins (lane_of run rows slot first) → (k : ℕ)
      → AtEnds (delay_of_aggs table.kinds.now table.aggs.now) (total_row run.held table.kinds.now table.aggs.now)
      (share (slot_of run slot) k (carried run rows)) (share (slot_of run out.slot) k (carried run out.wire))
