use Rattle.std.proofs.Common.{◌≡◌, ◌++◌, reverse, vec_len}
use Rattle.std.specs.Prelude.{map}
use Rattle.gl_query_reader.specs.Meaning.{agg_items}
use Rattle.gl_query.specs.Trees.{agg_item_tree}
use Rattle.gl_query_reader.specs.Trees.{items_of}
use Rattle.gl_query_reader.proofs.item_meaning.agg_items.Given as goal

abbrev pub invariant-loop-item : goal.invariant-loop-item
invariant-loop-item l = map agg_item_tree l.aggs.items ++ agg_items (items_of (reverse l.left.items)) ≡ agg_items (items_of l.fn.written)

abbrev pub decreases-loop-item : goal.decreases-loop-item
decreases-loop-item l = vec_len l.left
