use Rattle.gl_wire.proofs.ApartLemmas.{apart_unspaced}
use Rattle.gl_wire.proofs.laws.unspaced_is_apart.Goals as goal

pub returns : goal.returns
returns c = apart_unspaced
