use Rattle.gl_reference.proofs.Accepting.{accepted}
use Rattle.gl_reference.proofs.worked.accepts_what_fits.Goals as goal

pub returns : goal.returns
returns c = accepted
