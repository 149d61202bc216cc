use Rattle.std.proofs.Common.{length}
use Rattle.gl_reference.proofs.joins.+push_zeros.Given as goal

abbrev pub decreases-push_zeros : goal.decreases-push_zeros
decreases-push_zeros l = length l.columns.now
