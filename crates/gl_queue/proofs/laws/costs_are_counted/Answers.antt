use Rattle.gl_queue.proofs.CountLemmas.{joiners_are_counted, spacers_are_counted, unions_are_counted}
use Rattle.gl_queue.proofs.laws.costs_are_counted.Goals as goal

pub returns-clause-unions : goal.returns-clause-unions
returns-clause-unions c = unions_are_counted

pub returns-clause-joiners : goal.returns-clause-joiners
returns-clause-joiners c = joiners_are_counted

pub returns-clause-spacers : goal.returns-clause-spacers
returns-clause-spacers c = spacers_are_counted
