use Rattle.gl_spare.proofs.RotationNet.{is_fronted}
use Rattle.gl_spare.proofs.rotation.SpareRotationOverCopies.front.Goals as goal

pub returns : goal.returns
returns c =
    is_fronted c.args.net.now c.late_wire.new.net c.put_front.new.net c.close_line.new.net c.args.self.now c.args.source c.in_ok-late.late c.in_ok-wires.wires c.new.result c.in_ok-close.close c.stride.result c.flush-flush.result
    c.stride.ensures c.flush-flush.ensures c.requires.wire c.requires.lines c.in_ok-late.ensures c.in_ok-wires.ensures c.in_ok-close.ensures
