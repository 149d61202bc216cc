use Rattle.gl_values.proofs.Parting.{parts_are_slices}
use Rattle.gl_values.proofs.laws.parts_are_slices.Goals as goal

pub returns : goal.returns
returns g c = λ n size advance key key_of xs some step. parts_are_slices n size advance key_of some step key xs
