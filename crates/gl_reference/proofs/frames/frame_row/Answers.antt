use Rattle.std.proofs.Common.{rules}
use Rattle.gl_reference.proofs.Elements.{frame_at}
use Rattle.gl_reference.proofs.frames.frame_row.Goals as goal

pub returns-in_err-frame_value-clause-fits : goal.returns-in_err-frame_value-clause-fits
returns-in_err-frame_value-clause-fits c = λ h r.
    let frame = frame_at c.args.columns.now c.args.items.now c.loop-item.item-index c.item-item.result c.loop-item-test.true c.item-item.is h in
    let known = c.frame_value.ensures.fits frame r in
    search rules
