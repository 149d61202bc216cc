use Rattle.std.proofs.Common.{refl}
use Rattle.gl_windows.proofs.laws.worked_times.Goals as goal

pub returns : goal.returns
returns c = record { visits = refl; parts = refl; gaps = refl; nothing = refl; ticks = refl }
