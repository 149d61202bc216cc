use Rattle.gl_groups.proofs.GroupLemmas.{groupings_serve}
use Rattle.gl_groups.proofs.laws.groupings_serve.Goals as goal

pub returns : goal.returns
returns c = groupings_serve c.fits_is_timed.ensures
