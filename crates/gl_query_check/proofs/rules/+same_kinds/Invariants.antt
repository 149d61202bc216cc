use Rattle.std.proofs.Common.{length}
use Rattle.gl_query_check.proofs.rules.+same_kinds.Given as goal

abbrev pub decreases-same_kinds : goal.decreases-same_kinds
decreases-same_kinds l = length l.left.now
