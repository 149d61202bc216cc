use Rattle.std.proofs.Common.{length}
use Rattle.gl_plan.proofs.printed.+any_ticks.Given as goal

abbrev pub decreases-any_ticks : goal.decreases-any_ticks
decreases-any_ticks l = length l.roots.now
