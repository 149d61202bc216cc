-- What the circuit of a plan's node is: its wire gives the node's results over all beats that are spaced by the node's
-- figures.
use Rattle.std.specs.Prelude.{◌≡◌, ℕ, ◌+◌, ◌*◌, ◌<◌, List, length, Option, IsTrue}
use Rattle.gl_algebra.specs.declared.figures.Figures.{Figures}
use Rattle.gl_algebra.specs.declared.node.PlanNode.{PlanNode}
use Rattle.gl_algebra.specs.Cost.{keys_of, lean_of, store_of}
use Rattle.gl_algebra.specs.FigureTable.{figures_of}
use Rattle.gl_algebra.specs.Results.{Arriving, IsPlanArrival, Meaning, IsPlanResult}
use Rattle.gl_algebra.specs.Shapes.{Shape, kinds_of, shape_of}
use Rattle.gl_algebra.specs.Small.{AreFigures}
use Rattle.gl_algebra.specs.Views.{reads_time}
use Rattle.gl_algebra.specs.Weights.{weight_of}
use Rattle.gl_net.specs.declared.node.Bit.{Bit}
use Rattle.gl_net.specs.Net.{Net, Run, IsRun, Keeps}
use Rattle.gl_figures.specs.Reach.{keys_part, lean_part, store_part, weight_part}
use Rattle.gl_wire.specs.declared.emitted.Emitted.{Emitted}
use Rattle.gl_wire.specs.declared.wire.Wire.{Wire}
use Rattle.gl_wire.specs.Beats.{Beats, Spaced}
use Rattle.gl_wire.specs.Costs.{Cost, CostsAtMost}
use Rattle.gl_wire.specs.Faults.{AreLines, IsLine, line_of, lines_of}
use Rattle.gl_wire.specs.Pace.{KeepsPace}
use Rattle.gl_wire.specs.Serving.{Serving, inputs_at}
use Rattle.gl_wire.specs.Wire.{IsWire, carried, widths}
use Rattle.gl_turns.specs.Dated.{Dated}
use Rattle.gl_wiring.specs.Leaves.{HaveLeaves, HaveLine, LeavesFit, leaf, widths_of}

-- what a plan counts for the circuit of a node and of all below it, for each use: nodes, bits of registers, bits of
-- memories
abbrev pub plan_cost : List PlanNode → ℕ → Cost
plan_cost nodes id = record {
  nodes = weight_of nodes id;
  registers = 64 * lean_of nodes id + keys_of nodes id;
  memories = store_of nodes id;
}

-- what it counts for the node itself
abbrev pub own_cost : List PlanNode → ℕ → Cost
own_cost nodes id = record {
  nodes = weight_part nodes id;
  registers = 64 * lean_part nodes id + keys_part nodes id;
  memories = store_part nodes id;
}

-- a node can be put: the figures are those of all nodes, each of its leaves has a wire, and there is a line of ticks where
-- a plan over streams reads the time
pub record CanPut (nodes : List PlanNode) (figures : List Figures) (id : ℕ) (net : Net) (tick : Option Bit)
    (leaves : List Wire) : Type 0 where
  pub within : id < length nodes
  pub figured : AreFigures nodes figures
  pub leaved : HaveLeaves net leaves (shape_of nodes id).leaves
  pub ticked : IsLine net tick
  pub timed : HaveLine (reads_time nodes) tick (shape_of nodes id).leaves

-- a wire with the columns of a node, and lines, are in the netlist
pub record HasColumns (nodes : List PlanNode) (id : ℕ) (net : Net) (e : Emitted) : Type 0 where
  pub wire : IsWire net e.wire
  pub same_widths : widths e.wire.columns ≡ widths_of (kinds_of nodes id)
  pub lines : AreLines net e.faults

-- a wire and lines that give these results of the leaves' streams, of the ticks and of the words that are held in every
-- run, as a node of this shape and with these figures. Where each row comes of one row that came, it is brought by the
-- beat of that row
pub record GivesAs (shape : Shape) (f : Figures) (arrivals : Arriving) (means : Meaning) (net : Net) (tick : Option Bit) (leaves : List Wire)
    (e : Emitted) : Type 0 where
  pub wire : IsWire net e.wire
  pub same_widths : widths e.wire.columns ≡ widths_of shape.kinds
  pub lines : AreLines net e.faults
  pub paced : (run : Run) → IsRun net run → KeepsPace shape.pace f.a (leaf run leaves) (carried run e.wire)
  pub serving : (run : Run) → IsRun net run → (beats : Beats) → Spaced f beats → LeavesFit run tick leaves beats
      → Serving f (λ t. means (inputs_at run.held (line_of run tick) (leaf run leaves) (leaf run leaves 0) t))
      (lines_of run e.faults) beats (carried run e.wire)
  pub dated : (run : Run) (is : IsRun net run) (beats : Beats) (apart : Spaced f beats) (fits : LeavesFit run tick leaves beats)
      → IsTrue shape.arrives
      → Dated f (λ t. arrivals (inputs_at run.held (line_of run tick) (leaf run leaves) (leaf run leaves 0) t))
      (λ t n. n)
      (serving run is beats apart fits).spill beats (carried run e.wire)

-- a wire and lines that give a node's results
abbrev pub Gives : List PlanNode → ℕ → Net → Option Bit → List Wire → Emitted → Type 0
Gives nodes id net tick leaves e =
    GivesAs (shape_of nodes id) (figures_of nodes id) (IsPlanArrival nodes id) (IsPlanResult nodes id) net tick leaves e

-- a node's circuit behind those of its children: it gives the node's results, what stood before is kept, and no more is
-- added than the plan counts for the node itself
pub record IsPutBehind (nodes : List PlanNode) (id : ℕ) (old new : Net) (tick : Option Bit) (leaves : List Wire)
    (e : Emitted) : Type 0 where
  pub keeps : Keeps old new
  pub cost : CostsAtMost old new (own_cost nodes id)
  pub gives : Gives nodes id new tick leaves e

-- the circuit of a node with those of all below it, no more than the plan counts for them
pub record IsPut (nodes : List PlanNode) (id : ℕ) (old new : Net) (tick : Option Bit) (leaves : List Wire)
    (e : Emitted) : Type 0 where
  pub keeps : Keeps old new
  pub cost : CostsAtMost old new (plan_cost nodes id)
  pub gives : Gives nodes id new tick leaves e
