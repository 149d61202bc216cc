use Rattle.gl_elaborate.proofs.TimeLemmas.{plans-time}
use Rattle.gl_elaborate.proofs.laws.plans_tell_time.Goals as goal

pub returns : goal.returns
returns c = plans-time
