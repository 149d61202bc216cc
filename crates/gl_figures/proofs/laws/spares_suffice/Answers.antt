use Rattle.gl_figures.proofs.SpareLemmas.{spares_suffice}
use Rattle.gl_figures.proofs.laws.spares_suffice.Goals as goal

pub returns : goal.returns
returns c = spares_suffice
