use Rattle.gl_query.proofs.Unique.{unique}
use Rattle.gl_query.proofs.laws.results_are_unique.Goals as goal

pub returns : goal.returns
returns c = unique
