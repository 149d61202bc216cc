use Rattle.std.proofs.Common.{refl}
use Rattle.gl_values.specs.Lists.{groups, slices}
use Rattle.gl_values.specs.Partitions.{parts}
use Rattle.gl_values.proofs.laws.worked_parts.Goals as goal

pub returns : goal.returns
unfolding parts groups slices
returns c = record { nothing = refl; filled = refl; full_first = refl; by_key = refl; gaps = refl; further = refl }
