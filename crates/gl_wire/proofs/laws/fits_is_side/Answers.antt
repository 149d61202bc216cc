use Rattle.gl_wire.proofs.SideLemmas.{fits_side}
use Rattle.gl_wire.proofs.laws.fits_is_side.Goals as goal

pub returns : goal.returns
returns c = fits_side
