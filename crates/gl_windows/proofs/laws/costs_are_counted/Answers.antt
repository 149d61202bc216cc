use Rattle.gl_windows.proofs.CostLemmas.{rotations_are_counted}
use Rattle.gl_windows.proofs.laws.costs_are_counted.Goals as goal

pub returns : goal.returns
returns c = rotations_are_counted
