use Rattle.gl_values.proofs.Interleaving.{put_together}
use Rattle.gl_values.proofs.laws.interleavings_keep_orders.Goals as goal

pub returns : goal.returns
returns g c = λ xs ys zs i. put_together xs ys zs i
