use Rattle.gl_algebra.specs.FigureTable.{delay_of_aggs}
use Rattle.gl_wire.specs.Wire.{carried}
use Rattle.gl_totals.specs.Totals.{total_row}
use Rattle.gl_totals.proofs.totals.TotalsOperator.emit.Goals as goal

pub returns-clause-serves : goal.returns-clause-serves
returns-clause-serves c = λ run r f sound.
    let kinds = c.args.self.now.kinds.now in
    let aggs = c.args.self.now.aggs.now in
    c.ends_serve.ensures (delay_of_aggs kinds aggs) (total_row run.held kinds aggs) (carried run c.args.below.wire) (carried run c.in_ok-put.put.wire) f (c.in_ok-put.ensures.shape run r)
