use Rattle.gl_windows.proofs.TimeCosts.{times_rotate}
use Rattle.gl_windows.proofs.laws.times_rotate.Goals as goal

pub returns : goal.returns
returns c = times_rotate
