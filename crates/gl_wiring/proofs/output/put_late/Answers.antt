use Rattle.gl_wiring.proofs.OutputLemmas.{queue_is}
use Rattle.gl_wiring.proofs.output.put_late.Goals as goal

pub returns : goal.returns
returns c = queue_is c.args.net.now c.later_bit.new.net c.put_sticky.new.net c.args.line c.in_ok-later.later c.in_ok-fault.fault c.in_ok-later.ensures c.in_ok-fault.ensures
