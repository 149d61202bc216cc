use Rattle.gl_totals.proofs.DelayLemmas.{bus_behind_more, bus_behind_none}
use Rattle.gl_totals.proofs.delay.delay_bus.Goals as goal

pub loop-cycle-init : goal.loop-cycle-init
loop-cycle-init c = bus_behind_none c.args.net.now c.args.bus c.requires

pub loop-cycle-preserved : goal.loop-cycle-preserved
loop-cycle-preserved c = rw c.note_bus.ensures (
    bus_behind_more c.args.net.now c.loop-cycle.net c.later.new.net c.loop-cycle._cycle c.args.bus c.loop-cycle.out c.in_ok-out.out c.loop-cycle.invariant c.in_ok-out.ensures)
