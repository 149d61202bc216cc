use Rattle.gl_turns.proofs.TurnServes.{arrivals_interleave, turns_leave_next, turns_serve}
use Rattle.gl_turns.proofs.laws.turns_serve.Goals as goal

pub returns-clause-order : goal.returns-clause-order
returns-clause-order c = turns_serve

pub returns-clause-next : goal.returns-clause-next
returns-clause-next c = turns_leave_next

pub returns-clause-interleave : goal.returns-clause-interleave
returns-clause-interleave c = arrivals_interleave
