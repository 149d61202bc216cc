use Rattle.gl_wire_registers.proofs.TimerLemmas.{later_more, later_none}
use Rattle.gl_wire_registers.proofs.timers.later_by.Goals as goal

pub loop-cycle-init : goal.loop-cycle-init
loop-cycle-init c = later_none c.args.net.now c.args.line c.requires

pub loop-cycle-preserved : goal.loop-cycle-preserved
loop-cycle-preserved c =
    later_more c.args.net.now c.loop-cycle.net c.later_bit.new.net c.loop-cycle._cycle c.args.line c.loop-cycle.last c.in_ok-last.last c.loop-cycle.invariant c.in_ok-last.ensures
