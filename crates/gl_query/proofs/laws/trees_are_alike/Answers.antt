use Rattle.gl_query.proofs.Alike.{statement_same}
use Rattle.gl_query.proofs.laws.trees_are_alike.Goals as goal

pub returns : goal.returns
returns c = statement_same
