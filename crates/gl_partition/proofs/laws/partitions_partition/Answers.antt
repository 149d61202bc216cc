use Rattle.gl_partition.proofs.PartLemmas.{partitions_partition}
use Rattle.gl_partition.proofs.laws.partitions_partition.Goals as goal

pub returns : goal.returns
returns c = partitions_partition
