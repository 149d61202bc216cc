use Rattle.std.proofs.Common.{refl}
use Rattle.gl_values.specs.Tables.{with_key}
use Rattle.gl_partition.proofs.laws.worked_partitions.Goals as goal

pub returns : goal.returns
unfolding with_key
returns c = record { filled = refl; with_end = refl; overlap = refl }
