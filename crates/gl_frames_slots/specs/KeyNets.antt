-- Frames of each key in a netlist, from the lane of its first keys to the wire that leaves.
use Rattle.std.specs.Prelude.{◌≡◌, ℕ, suc, ◌+◌, ◌*◌, ◌^◌, ◌≤◌, Bool, false, List, Some, None, length, if◌then◌else◌}
use Rattle.std.specs.List.{sum}
use Rattle.gl_algebra.specs.declared.figures.Figures.{Figures}
use Rattle.gl_algebra.specs.FigureTable.{IsSound, delayed}
use Rattle.gl_algebra.specs.Frames.{delay_of_frames}
use Rattle.gl_algebra.specs.Results.{row_of_frames}
use Rattle.gl_algebra.specs.declared.node.PlanFrame.{PlanFrame}
use Rattle.gl_values.specs.declared.kind.Kind.{Kind}
use Rattle.gl_net.specs.Net.{Net, Run, IsRun, IsBit, Keeps}
use Rattle.gl_frames.specs.Frames.{by_key}
use Rattle.gl_frames_keys.specs.Lanes.{leaves_out}
use Rattle.gl_frames_keys.specs.Laws.{OfKeys}
use Rattle.gl_frames_lanes.specs.LaneNets.{IsLaneBehind, key_in}
use Rattle.gl_frames_lanes.specs.declared.lane.KeyLane.{KeyLane}
use Rattle.gl_frames_lanes.specs.declared.lane.Keys.{Keys}
use Rattle.gl_frames_stages.specs.DelayNets.{cost_of_late_line, cost_of_late_lines}
use Rattle.gl_frames_stages.specs.FramesNets.{frames_widths}
use Rattle.gl_frames_wire.specs.Running.{Runs}
use Rattle.gl_wire.specs.declared.wire.Wire.{Wire}
use Rattle.gl_wire.specs.Costs.{Cost, Costs, CostsAtMost}
use Rattle.gl_wire.specs.Shapes.{IsDelayed}
use Rattle.gl_wire.specs.Spills.{ServesWithLines}
use Rattle.gl_wire.specs.Wire.{Carried, IsWire, carried, line_at, row_at, widths}
use Rattle.gl_wire_registers.specs.Held.{with_registers}
use Rattle.gl_frames_slots.specs.ItemCosts.{cost_of_slot_items}
use Rattle.gl_frames_slots.specs.Rows.{AreTold, HasSlotRows, TellsBySlot}
use Rattle.gl_frames_slots.specs.declared.keyed.KeyFrames.{KeyFrames}
use Rattle.gl_frames_slots.specs.declared.keyed.KeyRows.{KeyRows}
use Rattle.gl_frames_slots.specs.declared.keyed.Partition.{Partition}

-- the rows of a lane one cycle later: its slot now and that of the next cycle
pub record AreRowsLate (run : Run) (lane : KeyLane) (r : KeyRows) : Type 0 where
  pub delayed : IsDelayed 1 (carried run lane.wire) (carried run r.wire)
  pub firsts : (t : ℕ) → line_at run r.rows.first (suc t) ≡ line_at run lane.first t
  pub slots : (t : ℕ) → run.at (suc (suc t)) r.rows.slot.node ≡ run.at (suc t) lane.slot.node

pub record AreKeyRowsIn (old new : Net) (lane : KeyLane) (r : KeyRows) : Type 0 where
  pub keeps : Keeps old new
  pub cost : Costs old new (with_registers (length (widths lane.wire.columns) + 4)
      (sum (widths lane.wire.columns) + lane.slot.width + 3))
  pub wire : IsWire new r.wire
  pub same_widths : widths r.wire.columns ≡ widths lane.wire.columns
  pub rows : HasSlotRows new r.rows
  pub same_width : r.rows.slot.width ≡ lane.slot.width
  pub same_line : r.rows.valid ≡ r.wire.valid
  pub same_begins : r.rows.begins ≡ lane.first
  pub same_next : r.rows.next ≡ lane.slot
  pub law : (run : Run) → IsRun new run → AreRowsLate run lane r

-- the items of such rows so many cycles later, on a wire, and what they cost at most
abbrev pub cost_of_key_items : ℕ → ℕ → List Kind → ℕ → List PlanFrame → Cost
cost_of_key_items slot bits kinds cycles items = record {
  nodes = (cost_of_slot_items slot kinds cycles items).nodes + 16 + (cost_of_late_lines cycles).nodes;
  registers = (cost_of_slot_items slot kinds cycles items).registers + bits + 1
      + (cost_of_late_lines cycles).registers;
  memories = (cost_of_slot_items slot kinds cycles items).memories + 2 ^ slot * (bits + 1)
      + (cost_of_late_lines cycles).memories;
}

pub record AreItemsOn (run : Run) (late : KeyRows) (kinds : List Kind) (cycles : ℕ) (items : List PlanFrame) (wire : Wire)
    (ends : ℕ → Bool) : Type 0 where
  pub delayed : IsDelayed cycles (record {
    tuple = λ c. if line_at run late.wire.valid c then Some (row_at run (c + cycles) wire.columns) else None;
    ends = line_at run late.wire.eos;
  }) (carried run wire)
  pub tells : TellsBySlot run late.rows ends cycles (row_of_frames run.held kinds items)
      (λ t. row_at run t late.wire.columns)
      (λ t. row_at run t wire.columns)

-- as many cycles behind such rows as they wait, and the slowest item takes
abbrev pub items_delay : ℕ → List Kind → List PlanFrame → ℕ
items_delay wait kinds items = wait + delay_of_frames kinds items

pub record AreKeyItemsIn (old new : Net) (late : KeyRows) (partition : Partition) (kinds : List Kind)
    (items : List PlanFrame) (out : Wire) : Type 0 where
  pub keeps : Keeps old new
  pub cost : CostsAtMost old new (cost_of_key_items late.rows.slot.width partition.bits kinds
      (items_delay partition.wait kinds items) items)
  pub wire : IsWire new out
  pub same_widths : widths out.columns ≡ frames_widths kinds items
  pub law : (run : Run) → IsRun new run → (ends : ℕ → Bool) → AreTold run late.rows ends
      → AreItemsOn run late kinds (items_delay partition.wait kinds items) items out ends

-- behind a row whose slot takes so many cycles to find, those, one more, and what the slowest item takes
abbrev pub key_delay : ℕ → List Kind → List PlanFrame → ℕ
key_delay cycles kinds items = cycles + 1 + delay_of_frames kinds items

-- in a run, where a row's slot takes so many cycles to find: as many behind each row of the first keys of its stream what
-- the items make of its key's rows up to it. Behind each row of a further key a line, in those cycles. So it serves that,
-- with no flush
pub record AreKeyFrames (cycles : ℕ) (run : Run) (keys : Keys) (kinds : List Kind) (items : List PlanFrame)
    (source : Wire) (r : KeyFrames) : Type 0 where
  pub runs : Runs (key_delay cycles kinds items)
      (by_key keys.groups (key_in keys.column) (row_of_frames run.held kinds items))
      (carried run source) (carried run r.wire)
  pub late : Carried
  pub behind : IsDelayed cycles (carried run source) late
  pub further : (c : ℕ) → line_at run r.further c ≡ leaves_out keys.groups (key_in keys.column) late c
  pub serves : (f : Figures) → IsSound f
      → ServesWithLines f (delayed (key_delay cycles kinds items) f)
      (OfKeys keys.groups (key_in keys.column) (row_of_frames run.held kinds items))
      (record { passed = λ c. false; further = line_at run r.further }) (carried run source) (carried run r.wire)

-- what all cost at most, the look-up aside: the rows beside their slots, the count, the items and the lines beside them,
-- and the line of further keys
abbrev pub cost_of_key_frames : Partition → List ℕ → List Kind → List PlanFrame → Cost
cost_of_key_frames partition columns kinds items =
    let slot = partition.keys.width in
    let most = cost_of_key_items slot partition.bits kinds (items_delay partition.wait kinds items) items in
    let line = cost_of_late_line partition.wait in
    record {
      nodes = length columns + 4 + most.nodes + line.nodes;
      registers = sum columns + slot + 3 + most.registers + line.registers;
      memories = most.memories + line.memories;
    }

-- in every run, from any contents, whatever wire the lane is behind, and so many cycles as it is
pub record AreKeyFramesIn (old new : Net) (partition : Partition) (kinds : List Kind) (items : List PlanFrame)
    (lane : KeyLane) (r : KeyFrames) : Type 0 where
  pub keeps : Keeps old new
  pub cost : CostsAtMost old new (cost_of_key_frames partition (widths lane.wire.columns) kinds items)
  pub wire : IsWire new r.wire
  pub same_widths : widths r.wire.columns ≡ frames_widths kinds items
  pub further : IsBit new r.further
  pub law : (run : Run) → IsRun new run → (cycles : ℕ) (source : Wire) → 1 ≤ cycles
      → IsLaneBehind cycles run partition.keys source lane
      → AreKeyFrames (cycles + partition.wait) run partition.keys kinds items source r
