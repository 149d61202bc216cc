use Rattle.gl_queue.proofs.SpacerServeLemmas.{spacer_serves}
use Rattle.gl_queue.proofs.laws.spacer_serves.Goals as goal

pub returns : goal.returns
returns c = spacer_serves c.fits_is_side.ensures
