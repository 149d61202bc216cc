use Rattle.gl_wire.proofs.EndLemmas.{ends_serve}
use Rattle.gl_wire.proofs.laws.ends_serve.Goals as goal

pub returns : goal.returns
returns c = ends_serve
