use Rattle.gl_wire.proofs.SteadyLemmas.{steady_serves}
use Rattle.gl_wire.proofs.laws.steady_serves.Goals as goal

pub returns : goal.returns
returns c = steady_serves
