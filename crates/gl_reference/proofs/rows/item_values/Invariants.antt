use Rattle.std.proofs.Common.{◌≡◌, take, map}
use Rattle.gl_query.specs.Shapes.{item_shape}
use Rattle.gl_reference.specs.Rows.{values_at}
use Rattle.gl_reference.proofs.rows.item_values.Given as goal

abbrev pub invariant-loop-item : goal.invariant-loop-item
invariant-loop-item l = l.out ≡ values_at l.columns (map item_shape (take l.item-index l.items)) l.row
