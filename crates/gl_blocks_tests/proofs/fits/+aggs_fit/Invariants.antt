use Rattle.std.proofs.Common.{length}
use Rattle.gl_blocks_tests.proofs.fits.+aggs_fit.Given as goal

abbrev pub decreases-aggs_fit : goal.decreases-aggs_fit
decreases-aggs_fit l = length l.aggs.now
