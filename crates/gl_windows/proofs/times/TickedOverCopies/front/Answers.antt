use Rattle.gl_windows.proofs.TimeRotationNet.{is_time_fronted}
use Rattle.gl_windows.proofs.times.TickedOverCopies.front.Goals as goal

pub returns : goal.returns
returns c =
    is_time_fronted c.args.net.now c.put_time_front.new.net c.close_line.new.net c.args.self.now c.args.source c.in_ok-wires.wires c.new.result c.in_ok-close.close c.flush-flush.result
    c.flush-flush.ensures c.requires.wire c.requires.lines c.requires.tick c.in_ok-wires.ensures c.in_ok-close.ensures
