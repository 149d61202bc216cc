use Rattle.gl_values.proofs.Slicing.{slices-nil}
use Rattle.gl_values.proofs.laws.no_slices_of_nothing.Goals as goal

pub returns : goal.returns
returns g c = λ size advance. slices-nil size advance
