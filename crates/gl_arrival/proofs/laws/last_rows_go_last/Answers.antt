use Rattle.gl_arrival.proofs.OrderLemmas.{first_goes_last, second_goes_last}
use Rattle.gl_arrival.proofs.laws.last_rows_go_last.Goals as goal

pub returns-clause-first : goal.returns-clause-first
returns-clause-first g c = first_goes_last

pub returns-clause-second : goal.returns-clause-second
returns-clause-second g c = second_goes_last
