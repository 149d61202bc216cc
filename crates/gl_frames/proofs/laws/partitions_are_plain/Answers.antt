use Rattle.gl_frames.proofs.PartitionLemmas.{each_plain, keys_known, partitions_plain}
use Rattle.gl_frames.proofs.laws.partitions_are_plain.Goals as goal

pub returns-clause-each : goal.returns-clause-each
returns-clause-each g c = each_plain

pub returns-clause-known : goal.returns-clause-known
returns-clause-known g c = keys_known

pub returns-clause-plain : goal.returns-clause-plain
returns-clause-plain g c = partitions_plain
