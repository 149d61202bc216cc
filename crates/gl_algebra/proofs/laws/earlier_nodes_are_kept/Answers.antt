use Rattle.gl_algebra.proofs.TableLemmas.{earlier_nodes_are_kept}
use Rattle.gl_algebra.proofs.laws.earlier_nodes_are_kept.Goals as goal

pub returns : goal.returns
returns c = earlier_nodes_are_kept
