use Rattle.std.proofs.Common.{refl}
use Rattle.gl_tuples_tests.proofs.worked.worked_times.Goals as goal

pub returns : goal.returns
returns c = record { times = refl; ticks = refl }
