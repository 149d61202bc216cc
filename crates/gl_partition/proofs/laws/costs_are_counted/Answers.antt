use Rattle.gl_partition.proofs.CostLemmas.{partitionings_are_counted}
use Rattle.gl_partition.proofs.laws.costs_are_counted.Goals as goal

pub returns : goal.returns
returns c = partitionings_are_counted
