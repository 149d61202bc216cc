use Rattle.gl_ticks.proofs.ServeLemmas.{times_serve_once}
use Rattle.gl_ticks.proofs.laws.times_serve_once.Goals as goal

pub returns : goal.returns
returns c = times_serve_once
