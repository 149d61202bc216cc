use Rattle.gl_spare.proofs.CostLemmas.{spares_are_counted}
use Rattle.gl_spare.proofs.laws.costs_are_counted.Goals as goal

pub returns : goal.returns
returns c = spares_are_counted
