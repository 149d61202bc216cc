use Rattle.gl_values.proofs.Timing.{tpart-more}
use Rattle.gl_values.proofs.laws.time_slices_grow.Goals as goal

pub returns : goal.returns
returns g c = λ from size t ts x xs same. tpart-more from size t ts x xs same
