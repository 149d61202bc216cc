use Rattle.std.proofs.Common.{◌≡◌, take, map}
use Rattle.gl_query.specs.Shapes.{frame_item_shape}
use Rattle.gl_query.specs.Results.{frame_row}
use Rattle.gl_reference.proofs.frames.frame_row.Given as goal

abbrev pub invariant-loop-item : goal.invariant-loop-item
invariant-loop-item l = l.out ≡ frame_row l.columns (map frame_item_shape (take l.item-index l.items)) l.rows
