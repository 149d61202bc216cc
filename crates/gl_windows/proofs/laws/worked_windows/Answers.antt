use Rattle.std.proofs.Common.{refl}
use Rattle.gl_windows.proofs.laws.worked_windows.Goals as goal

pub returns : goal.returns
returns c = record { overlap = refl; gaps = refl; each = refl }
