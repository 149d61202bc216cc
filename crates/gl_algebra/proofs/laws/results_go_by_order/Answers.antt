use Rattle.gl_algebra.proofs.OrderLemmas.{results_go_by_order}
use Rattle.gl_algebra.proofs.laws.results_go_by_order.Goals as goal

pub returns : goal.returns
returns c = results_go_by_order
