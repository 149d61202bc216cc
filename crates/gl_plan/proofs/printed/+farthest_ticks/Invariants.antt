use Rattle.std.proofs.Common.{length}
use Rattle.gl_plan.proofs.printed.+farthest_ticks.Given as goal

abbrev pub decreases-farthest_ticks : goal.decreases-farthest_ticks
decreases-farthest_ticks l = length l.roots.now
