use Rattle.std.proofs.Common.{ℕ, ◌-◌, arith, subst}
use Rattle.gl_algebra.specs.FigureTable.{delay_of_agg}
use Rattle.gl_totals.specs.Delays.{IsBusBehind}
use Rattle.gl_totals.proofs.AggNet.{agg_later}
use Rattle.gl_totals.proofs.total.put_agg.Goals as goal

pub returns : goal.returns
returns c =
    let mid = c.put_early.new.net in
    let new = c.delay_bus.new.net in
    let s = c.args.stream in
    let gone = delay_of_agg s.source.kinds.now c.args.agg.now - 1 in
    agg_later c.args.net.now mid new s c.args.agg.now c.in_ok-early.early c.in_ok-out.out gone c.args.cycles (omega (arith, c.requires.late)) c.in_ok-early.ensures
    (subst (λ (d : ℕ). IsBusBehind mid new (c.args.cycles - (d - 1)) c.in_ok-early.early c.in_ok-out.out) c.delay_of_agg-gone.ensures c.in_ok-out.ensures)
