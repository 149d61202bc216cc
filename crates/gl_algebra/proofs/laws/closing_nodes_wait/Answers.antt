use Rattle.gl_algebra.proofs.FigureLemmas.{closing_nodes_wait}
use Rattle.gl_algebra.proofs.laws.closing_nodes_wait.Goals as goal

pub returns : goal.returns
returns c = closing_nodes_wait
