use Rattle.gl_wire.proofs.TimeLemmas.{timed_by}
use Rattle.gl_wire.proofs.copy_laws.fits_is_timed.Goals as goal

pub returns : goal.returns
returns c = timed_by
