use Rattle.std.proofs.Common.{length}
use Rattle.gl_many.proofs.running.+longest.Given as goal

abbrev pub decreases-longest : goal.decreases-longest
decreases-longest l = length l.latencies.now
