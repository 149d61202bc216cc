use Rattle.gl_groups.proofs.LaneServes.{lanes_serve}
use Rattle.gl_groups.proofs.laws.lanes_serve.Goals as goal

pub returns : goal.returns
returns c = lanes_serve c.fits_is_timed.ensures c.own_beats_fit.ensures c.steady_serves.ensures c.ends_serve.ensures
