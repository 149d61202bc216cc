use Rattle.gl_arrival.proofs.OrderLemmas.{alone, in_order, never_falls}
use Rattle.gl_arrival.proofs.laws.arrival_is_the_order.Goals as goal

pub returns : goal.returns
returns g c = record { never_falls = never_falls; in_order = in_order; alone = alone }
