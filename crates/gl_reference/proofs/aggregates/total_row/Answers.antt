use Rattle.std.proofs.Common.{rules}
use Rattle.gl_reference.proofs.Elements.{agg_at}
use Rattle.gl_reference.proofs.aggregates.total_row.Goals as goal

pub returns-in_err-agg_value-clause-fits : goal.returns-in_err-agg_value-clause-fits
returns-in_err-agg_value-clause-fits c = λ h r.
    let agg = agg_at c.args.columns.now c.args.aggs.now c.loop-item.item-index c.item-item.result c.loop-item-test.true c.item-item.is h in
    let known = c.agg_value.ensures.fits agg r in
    search rules
