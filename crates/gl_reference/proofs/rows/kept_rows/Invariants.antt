use Rattle.std.proofs.Common.{◌≡◌, take}
use Rattle.std.specs.Prelude.{option_map}
use Rattle.gl_query.specs.Shapes.{expr_shape}
use Rattle.gl_query.specs.Results.{kept}
use Rattle.gl_reference.specs.Rows.{reach_seen}
use Rattle.gl_reference.proofs.rows.kept_rows.Given as goal

abbrev pub invariant-loop-row : goal.invariant-loop-row
invariant-loop-row l = l.out ≡ kept (reach_seen l.seen) (option_map expr_shape l.filter) (take l.row-index l.rows)
