use Rattle.gl_elaborate.proofs.WholeLemmas.{roots-right}
use Rattle.gl_elaborate.proofs.laws.roots_are_right.Goals as goal

pub returns : goal.returns
returns c = roots-right c.results_are_long.ensures
