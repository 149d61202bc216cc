use Rattle.gl_spare.proofs.NumberLemmas.{spares_rotate}
use Rattle.gl_spare.proofs.laws.spares_rotate.Goals as goal

pub returns : goal.returns
returns c = spares_rotate
