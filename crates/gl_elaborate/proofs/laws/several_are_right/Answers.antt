use Rattle.gl_elaborate.proofs.SeveralLemmas.{several-right}
use Rattle.gl_elaborate.proofs.laws.several_are_right.Goals as goal

pub returns : goal.returns
returns c = several-right c.results_are_long.ensures
