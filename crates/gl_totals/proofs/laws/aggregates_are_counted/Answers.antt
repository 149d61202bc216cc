use Rattle.gl_totals.proofs.CountLemmas.{aggregates_are_counted}
use Rattle.gl_totals.proofs.laws.aggregates_are_counted.Goals as goal

pub returns : goal.returns
returns c = aggregates_are_counted
