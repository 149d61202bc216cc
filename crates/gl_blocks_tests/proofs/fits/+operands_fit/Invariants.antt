use Rattle.std.proofs.Common.{length}
use Rattle.gl_blocks_tests.proofs.fits.+operands_fit.Given as goal

abbrev pub decreases-operands_fit : goal.decreases-operands_fit
decreases-operands_fit l = length l.operands.now
