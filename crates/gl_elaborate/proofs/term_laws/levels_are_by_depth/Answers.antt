use Rattle.gl_elaborate.proofs.PartLemmas.{by-depth}
use Rattle.gl_elaborate.proofs.term_laws.levels_are_by_depth.Goals as goal

pub returns : goal.returns
returns c = by-depth
