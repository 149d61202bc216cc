use Rattle.std.proofs.Common.{length}
use Rattle.gl_elaborate.proofs.joins.+push_zeros_but.Given as goal

abbrev pub decreases-push_zeros_but : goal.decreases-push_zeros_but
decreases-push_zeros_but l = length l.columns.now
