use Rattle.std.proofs.Common.{length}
use Rattle.gl_algebra.proofs.table.+delay_of_aggs.Given as goal

abbrev pub decreases-delay_of_aggs : goal.decreases-delay_of_aggs
decreases-delay_of_aggs l = length l.aggs.now
