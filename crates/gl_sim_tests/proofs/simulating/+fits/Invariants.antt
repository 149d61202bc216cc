use Rattle.std.proofs.Common.{length}
use Rattle.gl_sim_tests.proofs.simulating.+fits.Given as goal

abbrev pub decreases-fits : goal.decreases-fits
decreases-fits l = length l.widths.now
