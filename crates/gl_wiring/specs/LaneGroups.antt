-- Groups of a plan over direct bodies, in a netlist: the source, spaced where its tuples may come too fast, and one lane
-- for all slots behind it.
use Rattle.std.specs.Prelude.{◌≡◌, ℕ, List, length, Option}
use Rattle.gl_algebra.specs.declared.node.PlanNode.{PlanNode}
use Rattle.gl_algebra.specs.FigureTable.{figures_of, group_gap}
use Rattle.gl_algebra.specs.Results.{IsPlanArrival, IsPlanResult}
use Rattle.gl_algebra.specs.Shapes.{kinds_of, shape_of}
use Rattle.gl_net.specs.declared.node.Bit.{Bit}
use Rattle.gl_net.specs.Net.{Net, Run, IsRun, IsBit, IsBus, Keeps}
use Rattle.gl_slots.specs.Joins.{AreKeyBuses, width_of_keys}
use Rattle.gl_groups.specs.Laned.{IsLaneOf, cost_of_lane}
use Rattle.gl_wire.specs.declared.wire.Wire.{Wire}
use Rattle.gl_wire.specs.Apart.{CarriesApart}
use Rattle.gl_wire.specs.Beats.{Beats, Spaced}
use Rattle.gl_wire.specs.Costs.{Cost, CostsAtMost}
use Rattle.gl_wire.specs.Faults.{AreLines}
use Rattle.gl_wire.specs.Wire.{carried}
use Rattle.gl_wire_registers.specs.Lines.{AreBits}
use Rattle.gl_wiring.specs.declared.groups.GroupOf.{GroupOf}
use Rattle.gl_wiring.specs.declared.lanes.Laned.{Laned}
use Rattle.gl_wiring.specs.Leaves.{LeavesFit, widths_of}
use Rattle.gl_wiring.specs.Copies.{cost_from, paceless}
use Rattle.gl_wiring.specs.Groups.{group_whole, grouping_of, spaced_source}
use Rattle.gl_wiring.specs.Put.{GivesAs}

-- the cost of a group's lane, from its source on
abbrev pub cost_to_lane : List PlanNode → GroupOf → Cost
cost_to_lane nodes g =
    cost_from nodes g.source (group_gap (figures_of nodes g.body))
    (cost_of_lane g.groups g.key (widths_of (kinds_of nodes g.source)))

-- the lane of a group: its source gives the source's results, far enough apart for the body
pub record IsGroupLane (nodes : List PlanNode) (g : GroupOf) (old new : Net) (tick : Option Bit) (leaves : List Wire)
    (l : Laned) : Type 0 where
  pub keeps : Keeps old new
  pub cost : CostsAtMost old new (cost_to_lane nodes g)
  pub gives : GivesAs (paceless (shape_of nodes g.source)) (spaced_source nodes g) (IsPlanArrival nodes g.source) (IsPlanResult nodes g.source)
      new tick leaves
      l.source
  pub apart : (run : Run) → IsRun new run → (beats : Beats) → Spaced (group_whole nodes g) beats
      → LeavesFit run tick leaves beats → CarriesApart (group_gap (figures_of nodes g.body)) (carried run l.source.wire)
  pub lane : IsLaneOf new (grouping_of nodes g) l.source.wire l.lane

-- what gathers the rows of the slots finds their keys and the lines
pub record HasLane (net : Net) (groups : ℕ) (l : Laned) : Type 0 where
  pub close : IsBit net l.lane.close
  pub keys : AreKeyBuses net l.lane.keys
  pub keys_count : length l.lane.keys ≡ groups
  pub nexts : AreBits net l.lane.nexts
  pub nexts_count : length l.lane.nexts ≡ groups
  pub here : IsBus net l.lane.here
  pub here_width : l.lane.here.width ≡ width_of_keys l.lane.keys
  pub further : IsBit net l.lane.further
  pub lines : AreLines net l.source.faults
