use Rattle.gl_algebra.specs.Weights.{weight_of}
use Rattle.gl_figures.specs.Known.{HasValues}
use Rattle.gl_figures.proofs.weighed.weigh_nodes.Given as goal

abbrev pub invariant-loop-number : goal.invariant-loop-number
invariant-loop-number l = HasValues (weight_of l.plan) l.into l.number
