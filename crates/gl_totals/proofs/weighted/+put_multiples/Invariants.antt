use Rattle.std.proofs.Common.{length}
use Rattle.gl_totals.proofs.weighted.+put_multiples.Given as goal

abbrev pub decreases-put_multiples : goal.decreases-put_multiples
decreases-put_multiples l = length l.weights.now
