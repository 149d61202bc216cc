use Rattle.std.proofs.Common.{length}
use Rattle.gl_totals.proofs.weighted.+put_picked.Given as goal

abbrev pub decreases-put_picked : goal.decreases-put_picked
decreases-put_picked l = length l.weights.now
