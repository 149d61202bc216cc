use Rattle.std.proofs.Common.{length}
use Rattle.gl_plan.proofs.weights.+weight_together.Given as goal

abbrev pub decreases-weight_together : goal.decreases-weight_together
decreases-weight_together l = length l.roots.now
