use Rattle.gl_windows.proofs.WindowLemmas.{rotations_serve}
use Rattle.gl_windows.proofs.laws.rotations_serve.Goals as goal

pub returns : goal.returns
returns c = rotations_serve c.fits_is_timed.ensures
