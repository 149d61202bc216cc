use Rattle.std.proofs.Common.{length}
use Rattle.gl_blocks_tests.proofs.fits.+weights_fit.Given as goal

abbrev pub decreases-weights_fit : goal.decreases-weights_fit
decreases-weights_fit l = length l.weights.now
