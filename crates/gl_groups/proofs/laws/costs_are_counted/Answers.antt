use Rattle.gl_groups.proofs.CostLemmas.{groupings_are_counted}
use Rattle.gl_groups.proofs.laws.costs_are_counted.Goals as goal

pub returns : goal.returns
returns c = groupings_are_counted
