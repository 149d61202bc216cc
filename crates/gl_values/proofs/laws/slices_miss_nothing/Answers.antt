use Rattle.gl_values.proofs.Slicing.{in_slice}
use Rattle.gl_values.proofs.laws.slices_miss_nothing.Goals as goal

pub returns : goal.returns
returns g c = λ size advance xs i some near within. in_slice size advance xs i some near within
