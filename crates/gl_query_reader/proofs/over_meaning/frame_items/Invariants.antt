use Rattle.std.proofs.Common.{◌≡◌, ◌++◌, reverse, vec_len}
use Rattle.std.specs.Prelude.{map}
use Rattle.gl_query_reader.specs.Meaning.{frame_items}
use Rattle.gl_query.specs.Trees.{frame_item_tree}
use Rattle.gl_query_reader.specs.Trees.{items_of}
use Rattle.gl_query_reader.proofs.over_meaning.frame_items.Given as goal

abbrev pub invariant-loop-item : goal.invariant-loop-item
invariant-loop-item l = map frame_item_tree l.items.items ++ frame_items (items_of (reverse l.left.items)) ≡ frame_items (items_of l.fn.written)

abbrev pub decreases-loop-item : goal.decreases-loop-item
decreases-loop-item l = vec_len l.left
