use Rattle.gl_algebra.specs.Weights.{copies_of}
use Rattle.gl_figures.specs.Known.{HasValues}
use Rattle.gl_figures.proofs.copied.count_copies.Given as goal

abbrev pub invariant-loop-number : goal.invariant-loop-number
invariant-loop-number l = HasValues (copies_of l.plan) l.into l.number
