use Rattle.gl_algebra.proofs.ReadLemmas.{results_are_untimed}
use Rattle.gl_algebra.proofs.laws.results_are_untimed.Goals as goal

pub returns : goal.returns
returns c = results_are_untimed
