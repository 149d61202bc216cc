use Rattle.std.proofs.Common.{ℕ, ◌+◌, ◌*◌, List, length, map, ap, arith, refl, subst}
use Rattle.gl_algebra.specs.Values.{value_of_operand}
use Rattle.gl_algebra.specs.declared.node.PlanAgg.TheVariants.{Wsum}
use Rattle.gl_values.specs.Totals.{weighted_sum}
use Rattle.gl_bits.specs.Words.{Word, bits_of}
use Rattle.gl_totals.specs.Costs.{cost_of_weighted, slot_words}
use Rattle.gl_totals.specs.Totals.{IsTotalOf}
use Rattle.gl_totals.proofs.AggNet.{agg_is}
use Rattle.gl_totals.proofs.KeepLemmas.{keep_kept, lag_small}
use Rattle.gl_totals.proofs.total.put_weighted_of.Goals as goal

pub put_weighted-requires-clause-keep : goal.put_weighted-requires-clause-keep
put_weighted-requires-clause-keep c = keep_kept _ _ c.args.stream.rows.keep c.in_ok-value.ensures.keeps c.requires.stream.keep

pub returns : goal.returns
returns c =
    let s = c.args.stream in
    let keep = s.rows.keep in
    let mid = c.put_value.new.net in
    let new = c.put_weighted.new.net in
    let ws = c.args.weights.now in
    let x = c.in_ok-value.value in
    let value = c.in_ok-value.ensures in
    let total : IsTotalOf mid new (cost_of_weighted keep x.width (length ws)) x.width 0 s.rows x (weighted_sum x.width (bits_of ws)) c.in_ok-sum.sum =
    subst (λ (l : List Word). IsTotalOf mid new (cost_of_weighted keep x.width (length l)) x.width 0 s.rows x (weighted_sum x.width (bits_of l)) c.in_ok-sum.sum)
    c.as_slice.ensures c.in_ok-sum.ensures in
    let bits = ap (λ (w : ℕ). slot_words keep * (w + length ws)) value.same_width in
    agg_is c.args.net.now mid new s c.args.operand (Wsum c.args.operand ws) x c.in_ok-sum.sum (cost_of_weighted keep x.width (length ws)) x.width 0 0
    (weighted_sum x.width (bits_of ws)) value total (omega (arith, lag_small keep)) (omega (arith, value.same_width)) (omega (arith, bits)) refl value.same_width
    (λ sets rows. ap (λ (w : ℕ). weighted_sum w (bits_of ws) (map (λ row. value_of_operand sets row c.args.operand) rows)) value.same_width)
