-- Windows of time of a plan in a netlist: the stream, the front with the line of ticks, a circuit of the body behind each
-- wire of the front, and the back. A beat of a stream brings one row at most, so no spacer stands behind it.
use Rattle.std.specs.Prelude.{◌≡◌, ℕ, List, Some, slice_get}
use Rattle.gl_algebra.specs.declared.node.PlanNode.{PlanNode}
use Rattle.gl_algebra.specs.declared.node.PlanNode.TheVariants.{TimeWindow}
use Rattle.gl_algebra.specs.FigureTable.{figures_of}
use Rattle.gl_algebra.specs.Views.{copies_of_time}
use Rattle.gl_algebra.specs.Shapes.{kinds_of}
use Rattle.gl_windows.specs.declared.times.TimeRotation.{TimeRotation}
use Rattle.gl_windows.specs.Costs.{cost_of_time_front}
use Rattle.gl_wire.specs.Costs.{Cost}
use Rattle.gl_wiring.specs.declared.time_windows.TimeWindowOf.{TimeWindowOf}
use Rattle.gl_wiring.specs.Leaves.{widths_of}

-- a window of time is a node of a plan
abbrev pub IsTimeWindow : List PlanNode → TimeWindowOf → Type 0
IsTimeWindow nodes w = slice_get nodes w.id ≡ Some (TimeWindow w.source w.body w.size w.advance)

-- a node is a window of time
abbrev pub HasTimeWindow : List PlanNode → ℕ → Type 0
HasTimeWindow nodes id = (w : TimeWindowOf) × (w.id ≡ id) × IsTimeWindow nodes w

-- its rotation
abbrev pub time_rotation_of : List PlanNode → TimeWindowOf → TimeRotation
time_rotation_of nodes w = record { size = w.size; advance = w.advance; body = figures_of nodes w.body }

-- the cost of its front
abbrev pub cost_to_time_front : List PlanNode → TimeWindowOf → Cost
cost_to_time_front nodes w =
    let columns = widths_of (kinds_of nodes w.source) in
    cost_of_time_front (copies_of_time w.size w.advance) (figures_of nodes w.body).a columns
