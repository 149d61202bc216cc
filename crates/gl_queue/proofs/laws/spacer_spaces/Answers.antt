use Rattle.gl_queue.proofs.SpacerServeLemmas.{spacer_spaces}
use Rattle.gl_queue.proofs.laws.spacer_spaces.Goals as goal

pub returns : goal.returns
returns c = spacer_spaces c.fits_is_side.ensures
