use Rattle.std.proofs.Common.{length}
use Rattle.gl_plan.proofs.printed.+gap_together.Given as goal

abbrev pub decreases-gap_together : goal.decreases-gap_together
decreases-gap_together l = length l.roots.now
