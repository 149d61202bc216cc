use Rattle.gl_frames_stages.proofs.DelayNet.{far_late, near_late}
use Rattle.gl_frames_stages.proofs.delay.put_late.Goals as goal

pub returns-then-cycles-le4 : goal.returns-then-cycles-le4
returns-then-cycles-le4 c = near_late c.args.net.now c.delay_bus.new.net c.args.cycles c.args.bus c.in_ok-near.near c.if-cycles-le4.true c.in_ok-near.ensures

pub returns : goal.returns
returns c = far_late c.args.net.now c.put_far.new.net c.args.cycles c.args.bus c.in_ok-far.far c.if-cycles-le4.false c.in_ok-far.ensures
