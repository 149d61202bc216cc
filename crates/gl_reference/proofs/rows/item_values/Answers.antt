use Rattle.std.proofs.Common.{rules}
use Rattle.gl_reference.proofs.Elements.{item_word}
use Rattle.gl_reference.proofs.rows.item_values.Goals as goal

pub returns-in_err-ok_or-clause-fits : goal.returns-in_err-ok_or-clause-fits
returns-in_err-ok_or-clause-fits c = λ h r.
    let word = item_word c.args.columns.now c.args.items.now c.loop-item.item-index c.item-item.result c.args.row.now c.loop-item-test.true c.item-item.is h r in
    search rules
