use Rattle.gl_frames.proofs.LastLemmas.{last_values_stay}
use Rattle.gl_frames.proofs.laws.last_values_stay.Goals as goal

pub returns : goal.returns
returns g c = last_values_stay
