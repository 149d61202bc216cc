use Rattle.std.proofs.Common.{length}
use Rattle.gl_top_inputs.proofs.figuring.+put_latencies.Given as goal

abbrev pub decreases-put_latencies : goal.decreases-put_latencies
decreases-put_latencies l = length l.statements.now
