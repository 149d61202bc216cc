-- Windows with spare copies at the root of a plan, in a netlist: the source, the front with late ends, a circuit of the
-- body behind each wire of the front, and the back.
use Rattle.std.specs.Prelude.{◌≡◌, ◌+◌, List, Some}
use Rattle.gl_algebra.specs.declared.node.PlanNode.{PlanNode}
use Rattle.gl_algebra.specs.FigureTable.{figures_of}
use Rattle.gl_algebra.specs.Roots.{spare_at}
use Rattle.gl_algebra.specs.Shapes.{kinds_of}
use Rattle.gl_spare.specs.declared.rotation.SpareRotation.{SpareRotation}
use Rattle.gl_spare.specs.Costs.{cost_of_front}
use Rattle.gl_wire.specs.Costs.{Cost}
use Rattle.gl_wiring.specs.declared.spare_windows.SpareWindowOf.{SpareWindowOf}
use Rattle.gl_wiring.specs.Leaves.{widths_of}
use Rattle.gl_wiring.specs.Put.{plan_cost}
use Rattle.gl_wiring.specs.Windows.{IsWindow}

-- windows at the root of a plan have these spare copies
pub record IsSpareWindow (nodes : List PlanNode) (w : SpareWindowOf) : Type 0 where
  pub window' : IsWindow nodes w.window
  pub spare' : spare_at nodes w.window.id ≡ Some w.spare

-- their rotation
abbrev pub rotation_with : List PlanNode → SpareWindowOf → SpareRotation
rotation_with nodes w = record {
  size = w.window.size;
  advance = w.window.advance;
  body = figures_of nodes w.window.body;
  spare = w.spare;
}

-- the cost up to the front; no spacer stands behind a source that gives each beat's rows and end in one cycle
abbrev pub cost_to_front : List PlanNode → SpareWindowOf → Cost
cost_to_front nodes w =
    let source = plan_cost nodes w.window.source in
    let delay = (figures_of nodes w.window.body).a in
    let front = cost_of_front w.spare.copies delay (widths_of (kinds_of nodes w.window.source)) in
    record {
      nodes = source.nodes + front.nodes;
      registers = source.registers + front.registers;
      memories = source.memories + front.memories;
    }
