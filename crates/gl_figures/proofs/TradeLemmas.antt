-- A body over trades stays one while nodes are added.
use Rattle.std.proofs.Common.{ℕ, List, refl}
use Rattle.gl_algebra.specs.declared.node.PlanNode.{PlanNode}
use Rattle.gl_algebra.specs.Shapes.{shape_of, KeepsShapes}
use Rattle.gl_figures.specs.Worked.{IsOverInput}

pub over_kept : (old new : List PlanNode) (id : ℕ) → KeepsShapes old new → IsOverInput old id → IsOverInput new id
over_kept old new id kept over =
    let known = kept id (shape_of old id) (record { within = over.within; is = refl }) in
    record { within = known.within; closing = rw known.is over.closing; leaves = rw known.is over.leaves }
