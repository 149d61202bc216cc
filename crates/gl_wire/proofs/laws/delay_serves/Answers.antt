use Rattle.gl_wire.proofs.DelayLemmas.{delay_serves}
use Rattle.gl_wire.proofs.laws.delay_serves.Goals as goal

pub returns : goal.returns
returns c = delay_serves
