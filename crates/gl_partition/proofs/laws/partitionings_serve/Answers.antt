use Rattle.gl_partition.proofs.PartitionLemmas.{partitionings_serve}
use Rattle.gl_partition.proofs.laws.partitionings_serve.Goals as goal

pub returns : goal.returns
returns c = partitionings_serve c.fits_is_timed.ensures
