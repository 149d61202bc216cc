use Rattle.std.proofs.Common.{◌≤◌, [], take, arith, sym, subst}
use Rattle.gl_algebra.specs.FigureTable.{delay_of_agg, delay_of_aggs}
use Rattle.gl_algebra.specs.declared.node.PlanAgg.{PlanAgg}
use Rattle.gl_bits.proofs.AllLists.{taken_next}
use Rattle.gl_totals.specs.Totals.{AreAggsOf}
use Rattle.gl_totals.proofs.KeepLemmas.{stream_kept}
use Rattle.gl_totals.proofs.AggListNet.{aggs_more, aggs_none, delay_within}
use Rattle.gl_totals.proofs.total.put_aggs.Goals as goal

pub loop-agg-init : goal.loop-agg-init
loop-agg-init c = subst (AreAggsOf c.args.net.now c.args.net.now c.args.cycles c.args.stream []) (sym c.new-all.ensures) (aggs_none c.args.net.now c.args.cycles c.args.stream)

pub put_part-requires-clause-stream : goal.put_part-requires-clause-stream
put_part-requires-clause-stream c = stream_kept c.args.net.now c.loop-agg.net c.args.stream c.loop-agg.invariant.keeps c.requires.stream

pub put_part-requires-clause-late : goal.put_part-requires-clause-late
put_part-requires-clause-late c =
    let kinds = c.args.stream.source.kinds.now in
    let item : delay_of_agg kinds c.agg-item.result ≤ delay_of_aggs kinds c.args.aggs.now =
    subst (λ (agg : PlanAgg). delay_of_agg kinds agg ≤ delay_of_aggs kinds c.args.aggs.now) (sym c.agg-item.is)
    (delay_within kinds c.args.aggs.now c.loop-agg.agg-index c.agg-item.result c.loop-agg-test.true) in
    omega (arith, item, c.requires.late)

pub loop-agg-preserved : goal.loop-agg-preserved
loop-agg-preserved c =
    rw (taken_next c.args.aggs.now c.loop-agg.agg-index c.agg-item.result c.loop-agg-test.true c.agg-item.is, c.in_ok-push.ensures.ok)
    (aggs_more c.args.net.now c.loop-agg.net c.put_part.new.net c.args.cycles c.args.stream (take c.loop-agg.agg-index c.args.aggs.now) c.agg-item.result c.loop-agg.all
    c.in_ok-bus.bus c.loop-agg.invariant c.in_ok-bus.ensures)
