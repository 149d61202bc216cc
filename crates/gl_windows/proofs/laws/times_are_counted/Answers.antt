use Rattle.gl_windows.proofs.TimeCosts.{times_are_counted}
use Rattle.gl_windows.proofs.laws.times_are_counted.Goals as goal

pub returns : goal.returns
returns c = times_are_counted
