use Rattle.gl_totals.proofs.DelayLemmas.{bit_behind_more, bit_behind_none}
use Rattle.gl_totals.proofs.delay.delay_bit.Goals as goal

pub loop-cycle-init : goal.loop-cycle-init
loop-cycle-init c = bit_behind_none c.args.net.now c.args.line c.requires

pub loop-cycle-preserved : goal.loop-cycle-preserved
loop-cycle-preserved c = rw c.note_bit.ensures (
    bit_behind_more c.args.net.now c.loop-cycle.net c.later_bit.new.net c.loop-cycle._cycle c.args.line c.loop-cycle.out c.in_ok-out.out c.loop-cycle.invariant c.in_ok-out.ensures)
