use Rattle.std.proofs.Common.{length}
use Rattle.gl_query_check.proofs.items.+is_agg.Given as goal

abbrev pub decreases-is_agg : goal.decreases-is_agg
decreases-is_agg l = length l.aggs.now
