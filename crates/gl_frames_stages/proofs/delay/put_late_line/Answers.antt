use Rattle.gl_frames_stages.proofs.DelayNet.{far_line, near_line}
use Rattle.gl_frames_stages.proofs.delay.put_late_line.Goals as goal

pub returns-then-cycles-le23 : goal.returns-then-cycles-le23
returns-then-cycles-le23 c = near_line c.args.net.now c.delay_bit.new.net c.args.cycles c.args.line c.in_ok-near.near c.if-cycles-le23.true c.in_ok-near.ensures

pub returns : goal.returns
returns c = far_line c.args.net.now c.put_far_line.new.net c.args.cycles c.args.line c.in_ok-far.far c.if-cycles-le23.false c.in_ok-far.ensures
