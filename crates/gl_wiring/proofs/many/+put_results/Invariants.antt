use Rattle.std.proofs.Common.{length}
use Rattle.gl_wiring.proofs.many.+put_results.Given as goal

abbrev pub decreases-put_results : goal.decreases-put_results
decreases-put_results l = length l.roots.now
