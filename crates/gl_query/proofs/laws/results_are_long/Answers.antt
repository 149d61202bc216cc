use Rattle.gl_query.proofs.Lengths.{long}
use Rattle.gl_query.proofs.laws.results_are_long.Goals as goal

pub returns : goal.returns
returns c = long
