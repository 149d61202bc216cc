use Rattle.std.proofs.Common.{length}
use Rattle.gl_elaborate.proofs.joins.+push_with_key.Given as goal

abbrev pub decreases-push_with_key : goal.decreases-push_with_key
decreases-push_with_key l = length l.columns.now
