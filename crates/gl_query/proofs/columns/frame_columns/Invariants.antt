use Rattle.std.proofs.Common.{◌≡◌, take, map}
use Rattle.gl_query.specs.Shapes.{frame_item_shape}
use Rattle.gl_query.specs.Columns.{frame_column}
use Rattle.gl_query.proofs.columns.frame_columns.Given as goal

abbrev pub invariant-loop-item : goal.invariant-loop-item
invariant-loop-item l = l.out ≡ map (frame_column l.columns) (map frame_item_shape (take l.item-index l.items))
