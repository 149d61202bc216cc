use Rattle.gl_values.proofs.Timing.{get-tslices}
use Rattle.gl_values.proofs.laws.time_slices_are_parts.Goals as goal

pub returns : goal.returns
returns g c = λ size advance ticks times xs j some. get-tslices size advance ticks times xs j some
