use Rattle.std.proofs.Common.{length}
use Rattle.gl_plan.proofs.printed.+push_latencies.Given as goal

abbrev pub decreases-push_latencies : goal.decreases-push_latencies
decreases-push_latencies l = length l.roots.now
