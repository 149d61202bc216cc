use Rattle.std.proofs.Common.{length}
use Rattle.gl_blocks_tests.proofs.fits.+ops_fit.Given as goal

abbrev pub decreases-ops_fit : goal.decreases-ops_fit
decreases-ops_fit l = length l.ops.now
