use Rattle.std.proofs.Common.{◌≡◌, take}
use Rattle.gl_query.specs.Shapes.{expr_shape}
use Rattle.gl_query.specs.Results.{values_of}
use Rattle.gl_reference.proofs.aggregates.values_over.Given as goal

abbrev pub invariant-loop-row : goal.invariant-loop-row
invariant-loop-row l = l.out.items ≡ values_of l.columns (expr_shape l.expr) (take l.row-index l.rows)
