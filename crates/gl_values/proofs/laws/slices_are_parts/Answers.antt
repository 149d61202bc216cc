use Rattle.gl_values.proofs.Slicing.{get-slices}
use Rattle.gl_values.proofs.laws.slices_are_parts.Goals as goal

pub returns : goal.returns
returns g c = λ size advance xs j some. get-slices size advance xs j some
