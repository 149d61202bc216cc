use Rattle.gl_sim.proofs.Draws.{IsDrawnIn}
use Rattle.gl_sim.proofs.draw.draw_bank.Given as goal

abbrev pub invariant-loop-at : goal.invariant-loop-at
invariant-loop-at l = IsDrawnIn l.initial.state l.state l.at l.width l.initial.bank l.bank
