use Rattle.gl_algebra.proofs.UniqueLemmas.{results_are_unique}
use Rattle.gl_algebra.proofs.laws.results_are_unique.Goals as goal

pub returns : goal.returns
returns c = results_are_unique
