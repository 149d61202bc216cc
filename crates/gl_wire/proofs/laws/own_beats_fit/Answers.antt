use Rattle.gl_wire.proofs.ClosingLemmas.{own_fits}
use Rattle.gl_wire.proofs.laws.own_beats_fit.Goals as goal

pub returns : goal.returns
returns c = own_fits
