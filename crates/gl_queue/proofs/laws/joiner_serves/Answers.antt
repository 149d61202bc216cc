use Rattle.gl_queue.proofs.JoinerLemmas.{joiner_serves}
use Rattle.gl_queue.proofs.laws.joiner_serves.Goals as goal

pub returns : goal.returns
returns c = joiner_serves c.fits_is_side.ensures
