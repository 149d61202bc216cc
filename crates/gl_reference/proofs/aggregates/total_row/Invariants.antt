use Rattle.std.proofs.Common.{◌≡◌, take, map}
use Rattle.gl_query.specs.Shapes.{agg_item_shape}
use Rattle.gl_query.specs.Results.{total_row}
use Rattle.gl_reference.proofs.aggregates.total_row.Given as goal

abbrev pub invariant-loop-item : goal.invariant-loop-item
invariant-loop-item l = l.out ≡ total_row l.columns (map agg_item_shape (take l.item-index l.aggs)) l.rows
