use Rattle.std.proofs.Common.{◌≡◌, take, map}
use Rattle.gl_query.specs.Shapes.{agg_item_shape}
use Rattle.gl_query.specs.Columns.{agg_column}
use Rattle.gl_query.proofs.columns.agg_columns.Given as goal

abbrev pub invariant-loop-item : goal.invariant-loop-item
invariant-loop-item l = l.out ≡ map (agg_column l.columns) (map agg_item_shape (take l.item-index l.aggs))
