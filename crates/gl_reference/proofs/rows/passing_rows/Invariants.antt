use Rattle.std.proofs.Common.{◌≡◌, take}
use Rattle.std.specs.Prelude.{option_map}
use Rattle.gl_query.specs.Shapes.{expr_shape}
use Rattle.gl_reference.specs.Rows.{passing}
use Rattle.gl_reference.proofs.rows.passing_rows.Given as goal

abbrev pub invariant-loop-row : goal.invariant-loop-row
invariant-loop-row l = l.out ≡ passing l.columns (option_map expr_shape l.filter) (take l.row-index l.rows)
