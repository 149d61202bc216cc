use Rattle.gl_wire.proofs.StageLemmas.{padded_more}
use Rattle.gl_wire.proofs.stages.pad.Goals as goal

pub loop-cycle-preserved : goal.loop-cycle-preserved
loop-cycle-preserved c = rw c.note_stage.ensures (
    padded_more c.args.net.now c.loop-cycle.net c.later_wire.new.net c.loop-cycle._cycle c.args.wire.now c.loop-cycle.padded c.in_ok-padded-2.padded
    c.loop-cycle.invariant c.in_ok-padded-2.ensures)
