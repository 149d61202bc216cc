use Rattle.gl_net.proofs.Determined as determined
use Rattle.gl_net.proofs.laws.earlier_values_stay.Goals as goal

pub returns : goal.returns
returns c = determined.earlier_values_stay
