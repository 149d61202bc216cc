use Rattle.std.proofs.Common.{length}
use Rattle.gl_figures.proofs.weights.+weight_of_aggs.Given as goal

abbrev pub decreases-weight_of_aggs : goal.decreases-weight_of_aggs
decreases-weight_of_aggs l = length l.aggs.now
