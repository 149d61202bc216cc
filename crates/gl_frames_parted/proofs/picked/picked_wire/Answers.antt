use Rattle.gl_frames_parted.proofs.PickedLemmas.{column_picked}
use Rattle.gl_frames_parted.proofs.picked.picked_wire.Goals as goal

pub loop-column-preserved : goal.loop-column-preserved
loop-column-preserved c =
    rw (c.in_ok-push.ensures.ok, c.as_slice.ensures)
    (column_picked c.args.wire.now.columns c.loop-column.columns c.args.asked.now c.loop-column.column-index _ c.loop-column-test.true
    (c.requires c.loop-column.column-index 0 c.loop-column-test.true) c.loop-column.invariant)
