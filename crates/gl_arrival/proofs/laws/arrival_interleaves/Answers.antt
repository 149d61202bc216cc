use Rattle.gl_arrival.specs.Arrival.{by_arrival}
use Rattle.gl_arrival.proofs.OrderLemmas.{interleaves}
use Rattle.gl_arrival.proofs.ResultLemmas.{rows_interleave}
use Rattle.gl_arrival.proofs.SideLemmas.{first_restored, second_restored}
use Rattle.gl_arrival.proofs.laws.arrival_interleaves.Goals as goal

pub returns-clause-interleaves : goal.returns-clause-interleaves
returns-clause-interleaves g c = record { with_places = interleaves; rows = rows_interleave }

pub returns-clause-restores : goal.returns-clause-restores
returns-clause-restores g c = record {
  first = λ is_first xs ys told. first_restored is_first xs ys (by_arrival xs ys) (interleaves xs ys) told.first told.second;
  second = λ is_first xs ys told. second_restored is_first xs ys (by_arrival xs ys) (interleaves xs ys) told.first told.second;
}
