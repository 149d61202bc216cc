use Rattle.std.proofs.Common.{refl}
use Rattle.gl_tuples_tests.proofs.worked.worked_windows.Goals as goal

pub returns : goal.returns
returns c = record { close = refl; apart = refl; nothing = refl; empty = refl }
