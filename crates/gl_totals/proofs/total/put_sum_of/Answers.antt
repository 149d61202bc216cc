use Rattle.std.proofs.Common.{ℕ, ◌*◌, map, ap, refl, arith}
use Rattle.gl_algebra.specs.declared.node.PlanAgg.TheVariants.{Sum}
use Rattle.gl_algebra.specs.Values.{value_of_operand}
use Rattle.gl_values.specs.Totals.{sum_total}
use Rattle.gl_totals.specs.Costs.{cost_of_fold, slot_words}
use Rattle.gl_totals.proofs.AggNet.{agg_is}
use Rattle.gl_totals.proofs.KeepLemmas.{keep_kept, lag_small}
use Rattle.gl_totals.proofs.total.put_sum_of.Goals as goal

pub put_sum-requires-clause-keep : goal.put_sum-requires-clause-keep
put_sum-requires-clause-keep c = keep_kept _ _ c.args.stream.rows.keep c.in_ok-value.ensures.keeps c.requires.stream.keep

pub returns : goal.returns
returns c =
    let x = c.in_ok-value.value in
    let value = c.in_ok-value.ensures in
    let keep = c.args.stream.rows.keep in
    let bits = ap (λ (w : ℕ). slot_words keep * w) value.same_width in
    agg_is c.args.net.now c.put_value.new.net c.put_sum.new.net c.args.stream c.args.operand (Sum c.args.operand) x c.in_ok-sum.sum (cost_of_fold keep 1 x.width) x.width 0 0
    (sum_total x.width) value c.in_ok-sum.ensures (omega (arith, lag_small keep)) (omega (arith, value.same_width)) (omega (arith, bits)) refl value.same_width
    (λ sets rows. ap (λ (w : ℕ). sum_total w (map (λ row. value_of_operand sets row c.args.operand) rows)) value.same_width)
