use Rattle.std.proofs.Common.{subst}
use Rattle.gl_values.specs.declared.kind.Kind.{Kind}
use Rattle.gl_totals.specs.Totals.{extreme_of, IsTotalOf}
use Rattle.gl_totals.specs.Costs.{cost_of_extreme}
use Rattle.gl_totals.proofs.AggNet.{extreme_is}
use Rattle.gl_totals.proofs.KeepLemmas.{keep_kept}
use Rattle.gl_totals.proofs.total.put_extreme_of.Goals as goal

pub put_extreme-requires-clause-keep : goal.put_extreme-requires-clause-keep
put_extreme-requires-clause-keep c = keep_kept _ _ c.args.stream.rows.keep c.in_ok-value.ensures.keeps c.requires.stream.keep

pub returns : goal.returns
returns c =
    let x = c.in_ok-value.value in
    extreme_is c.args.net.now c.put_value.new.net c.put_extreme.new.net c.args.stream c.args.operand c.args.extreme x c.in_ok-best.best c.in_ok-value.ensures
    (subst (λ (k : Kind). IsTotalOf c.put_value.new.net c.put_extreme.new.net (cost_of_extreme c.args.stream.rows.keep x.width) x.width 0 c.args.stream.rows x (extreme_of c.args.extreme k) c.in_ok-best.best)
    c.kind_of_operand-kind.ensures c.in_ok-best.ensures)
