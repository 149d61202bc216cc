use Rattle.std.proofs.Common.{refl}
use Rattle.gl_wiring.proofs.names.worked_names.Goals as goal

pub returns : goal.returns
returns c = record { valid = refl; column = refl; fault = refl; shared = refl }
