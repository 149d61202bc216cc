-- Windows of a plan in a netlist: the source, spaced where its tuples may come too fast, the front, a circuit of the
-- body behind each wire of the front, and the back.
use Rattle.std.specs.Prelude.{◌≡◌, ℕ, List, Some, slice_get}
use Rattle.gl_algebra.specs.declared.figures.Figures.{Figures}
use Rattle.gl_algebra.specs.declared.node.PlanNode.{PlanNode}
use Rattle.gl_algebra.specs.declared.node.PlanNode.TheVariants.{Window}
use Rattle.gl_algebra.specs.FigureTable.{figures_of, spaced, window_figures, window_gap}
use Rattle.gl_algebra.specs.Views.{copies_of_window}
use Rattle.gl_algebra.specs.Shapes.{kinds_of}
use Rattle.gl_windows.specs.declared.rotation.Rotation.{Rotation}
use Rattle.gl_windows.specs.Costs.{cost_of_front}
use Rattle.gl_wire.specs.Costs.{Cost}
use Rattle.gl_wiring.specs.declared.windows.WindowOf.{WindowOf}
use Rattle.gl_wiring.specs.Leaves.{widths_of}
use Rattle.gl_wiring.specs.Copies.{cost_from}

-- a window is a node of a plan
abbrev pub IsWindow : List PlanNode → WindowOf → Type 0
IsWindow nodes w = slice_get nodes w.id ≡ Some (Window w.source w.body w.size w.advance)

-- a node is a window
abbrev pub HasWindow : List PlanNode → ℕ → Type 0
HasWindow nodes id = (w : WindowOf) × (w.id ≡ id) × IsWindow nodes w

-- the rotation of a window: as many copies of its body as windows can be open at once
abbrev pub rotation_of : List PlanNode → WindowOf → Rotation
rotation_of nodes w = record {
  size = w.size;
  advance = w.advance;
  copies = copies_of_window w.size w.advance;
  body = figures_of nodes w.body;
}

-- the figures of its source, spaced where the body's copies need it, and of the whole
abbrev pub source_figures : List PlanNode → WindowOf → Figures
source_figures nodes w = spaced (window_gap (figures_of nodes w.body)) (figures_of nodes w.source)

abbrev pub whole_figures : List PlanNode → WindowOf → Figures
whole_figures nodes w =
    window_figures (copies_of_window w.size w.advance) (figures_of nodes w.source) (figures_of nodes w.body)

-- the cost of a window's front, from its source on
abbrev pub cost_to_front : List PlanNode → WindowOf → Cost
cost_to_front nodes w =
    let body = figures_of nodes w.body in
    cost_from nodes w.source (window_gap body)
    (cost_of_front (copies_of_window w.size w.advance) body.a (widths_of (kinds_of nodes w.source)))
