use Rattle.gl_query.proofs.Arriving.{arrivals}
use Rattle.gl_query.proofs.laws.arrivals_are_results.Goals as goal

pub returns : goal.returns
returns c = arrivals
