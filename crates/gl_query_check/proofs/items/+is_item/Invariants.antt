use Rattle.std.proofs.Common.{length}
use Rattle.gl_query_check.proofs.items.+is_item.Given as goal

abbrev pub decreases-is_item : goal.decreases-is_item
decreases-is_item l = length l.items.now
