use Rattle.std.proofs.Common.{◌≡◌, take, map}
use Rattle.gl_query.specs.Shapes.{item_shape}
use Rattle.gl_query.specs.Columns.{item_column}
use Rattle.gl_query.proofs.columns.item_columns.Given as goal

abbrev pub invariant-loop-item : goal.invariant-loop-item
invariant-loop-item l = l.out ≡ map (item_column l.columns) (map item_shape (take l.item-index l.items))
