use Rattle.gl_figures.proofs.FiguredLemmas.{IsFigured}
use Rattle.gl_figures.proofs.figured.figures.Given as goal

abbrev pub invariant-loop-number : goal.invariant-loop-number
invariant-loop-number l = IsFigured l.plan l.initial.into l.into l.number
