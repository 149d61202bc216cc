use Rattle.std.proofs.Common.{refl}
use Rattle.gl_values.specs.Tables.{with_key}
use Rattle.gl_groups.proofs.laws.worked_groups.Goals as goal

pub returns : goal.returns
unfolding with_key
returns c = record { visits = refl; further = refl }
