use Rattle.gl_algebra.proofs.PaceLemmas.{pace_fixed}
use Rattle.gl_algebra.proofs.laws.paces_fix_figures.Goals as goal

pub returns : goal.returns
returns c = pace_fixed
