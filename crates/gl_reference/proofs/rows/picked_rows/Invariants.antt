use Rattle.std.proofs.Common.{◌≡◌, take, map}
use Rattle.std.specs.Prelude.{option_map}
use Rattle.gl_query.specs.Shapes.{expr_shape, pick_shape}
use Rattle.gl_query.specs.Results.{kept, picked}
use Rattle.gl_reference.specs.Rows.{reach_seen}
use Rattle.gl_reference.proofs.rows.picked_rows.Given as goal

abbrev pub invariant-loop-row : goal.invariant-loop-row
invariant-loop-row l = l.out ≡ map (picked (reach_seen l.seen) (pick_shape l.pick)) (kept (reach_seen l.seen) (option_map expr_shape l.filter) (take l.row-index l.rows))
