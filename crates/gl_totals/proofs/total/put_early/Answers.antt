use Rattle.std.proofs.Common.{◌-◌, sym, subst}
use Rattle.std.proofs.lemmas.Result.{IfOk-weaker}
use Rattle.gl_algebra.specs.FigureTable.{delay_of_agg}
use Rattle.gl_algebra.specs.declared.node.PlanAgg.{PlanAgg}
use Rattle.gl_algebra.specs.declared.node.PlanAgg.TheVariants.{Count}
use Rattle.std.specs.Prelude.{IfOk}
use Rattle.gl_values.specs.Totals.{count_of}
use Rattle.gl_net.specs.declared.node.Bus.{Bus}
use Rattle.gl_totals.specs.Costs.{cost_of_count}
use Rattle.gl_totals.specs.Totals.{IsAggOf, IsTotalOf}
use Rattle.gl_totals.proofs.AggNet.{count_is}
use Rattle.gl_totals.proofs.total.put_early.Goals as goal

pub returns-in-Count : goal.returns-in-Count
returns-in-Count c =
    let old = c.args.net.now in
    let new = c.put_count.new.net in
    let s = c.args.stream in
    let x : Bus = record { node = s.rows.eos.node; width = 1 } in
    subst (λ (agg : PlanAgg). IfOk c.put_count.result (IsAggOf old new (delay_of_agg s.source.kinds.now agg - 1) (delay_of_agg s.source.kinds.now agg - 1) s agg)) (sym c.in-Count.is)
    (IfOk-weaker c.put_count.result (IsTotalOf old new (cost_of_count s.rows.keep) 32 0 s.rows x count_of) (IsAggOf old new 0 0 s Count) (count_is old new s x) (c.put_count.ensures x))
