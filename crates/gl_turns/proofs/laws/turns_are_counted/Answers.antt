use Rattle.gl_turns.proofs.CountLemmas.{turns_are_counted, turns_of_streams}
use Rattle.gl_turns.proofs.laws.turns_are_counted.Goals as goal

pub returns-clause-weight : goal.returns-clause-weight
returns-clause-weight c = turns_are_counted

pub returns-clause-streams : goal.returns-clause-streams
returns-clause-streams c = turns_of_streams
