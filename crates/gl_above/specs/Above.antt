-- Rows that are taken one by one behind a wire that serves one stream.
use Rattle.std.specs.Prelude.{◌≡◌, ℕ, List, Option, None}
use Rattle.gl_values.specs.Results.{Row}
use Rattle.gl_algebra.specs.declared.figures.Figures.{Figures}
use Rattle.gl_algebra.specs.declared.node.PlanNode.{PlanNode}
use Rattle.gl_algebra.specs.FigureTable.{delayed}
use Rattle.gl_algebra.specs.Results.{Inputs, IsPlanResult}
use Rattle.gl_wire.specs.Beats.{beats_of}
use Rattle.gl_wire.specs.Once.{ServingOnce}
use Rattle.gl_wire.specs.Serving.{through}
use Rattle.gl_wire.specs.Shapes.{Mapped, Steady}
use Rattle.gl_wire.specs.Spills.{Lines}
use Rattle.gl_wire.specs.Wire.{Carried}

-- over one stream: where a wire that carries nothing in the reset cycle gives a node's results, each of its rows computed
-- or dropped some cycles later gives those of them, with the same lines and as many cycles later
abbrev pub RowsServeOnce : Type 0
RowsServeOnce =
    (nodes : List PlanNode) (id : ℕ) (inputs : Inputs) (f : Figures) (m : ℕ) (step : Row → Option Row) (lines : Lines)
    (last : ℕ) (a b : Carried) → beats_of a 0 ≡ None → Steady m step a b
    → ServingOnce f (IsPlanResult nodes id inputs) lines last a
    → ServingOnce (delayed m f) (through (IsPlanResult nodes id inputs) (Mapped step)) lines last b
