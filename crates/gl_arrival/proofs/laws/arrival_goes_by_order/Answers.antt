use Rattle.gl_arrival.proofs.SideLemmas.{by_arrival_moved, by_arrival_of_mapped}
use Rattle.gl_arrival.proofs.laws.arrival_goes_by_order.Goals as goal

pub returns : goal.returns
returns g c = record { places = by_arrival_moved; rows = by_arrival_of_mapped }
