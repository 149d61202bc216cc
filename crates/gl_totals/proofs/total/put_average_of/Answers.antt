use Rattle.std.proofs.Common.{◌≡◌, ℕ, ◌+◌, ◌-◌, ◌*◌, ◌≤◌, ap, arith, refl, subst, sym, ◌∙◌}
use Rattle.std.proofs.Math.Nat.{mul-le-mul_right}
use Rattle.gl_algebra.specs.Columns.{kind_of_operand}
use Rattle.gl_algebra.specs.declared.node.PlanAgg.TheVariants.{Avg}
use Rattle.gl_values.specs.Kinds.{IsKind, width_of}
use Rattle.gl_values.specs.Totals.{average_of}
use Rattle.gl_values.proofs.KindLemmas.{kind_some}
use Rattle.gl_values.specs.declared.kind.Kind.{Kind}
use Rattle.gl_totals.specs.Costs.{cost_of_average}
use Rattle.gl_totals.specs.Totals.{IsTotalOf}
use Rattle.gl_totals.proofs.AggNet.{agg_is}
use Rattle.gl_totals.proofs.KeepLemmas.{keep_kept, lag_small}
use Rattle.gl_totals.proofs.KindLemmas.{operand_kind}
use Rattle.gl_totals.proofs.total.put_average_of.Goals as goal

pub put_average-requires-clause-width : goal.put_average-requires-clause-width
put_average-requires-clause-width c = c.in_ok-value.ensures.same_width ∙ ap width_of (sym c.kind_of_operand-kind.ensures)

pub put_average-requires-clause-kind : goal.put_average-requires-clause-kind
put_average-requires-clause-kind c =
    subst IsKind (sym c.kind_of_operand-kind.ensures) (operand_kind c.args.stream.source.kinds.now c.args.operand c.requires.kinds c.requires.fits.0)

pub put_average-requires-clause-keep : goal.put_average-requires-clause-keep
put_average-requires-clause-keep c = keep_kept _ _ c.args.stream.rows.keep c.in_ok-value.ensures.keeps c.requires.stream.keep

pub returns : goal.returns
returns c =
    let s = c.args.stream in
    let keep = s.rows.keep in
    let mid = c.put_value.new.net in
    let new = c.put_average.new.net in
    let kind = kind_of_operand s.source.kinds.now c.args.operand in
    let x = c.in_ok-value.value in
    let out = c.in_ok-average.average in
    let value = c.in_ok-value.ensures in
    let gone : x.width + 33 ≡ width_of kind + 34 - 1 = omega (arith, value.same_width) in
    let total : IsTotalOf mid new (cost_of_average keep (width_of kind)) x.width (width_of kind + 34 - 1) s.rows x (average_of kind) out =
    subst (λ (w : ℕ). IsTotalOf mid new (cost_of_average keep w) x.width (width_of kind + 34 - 1) s.rows x (average_of kind) out) value.same_width
    (subst (λ (n : ℕ). IsTotalOf mid new (cost_of_average keep x.width) x.width n s.rows x (average_of kind) out) gone
    (subst (λ (k : Kind). IsTotalOf mid new (cost_of_average keep x.width) x.width (x.width + 33) s.rows x (average_of k) out) c.kind_of_operand-kind.ensures
    c.in_ok-average.ensures)) in
    let some = operand_kind s.source.kinds.now c.args.operand c.requires.kinds c.requires.fits.0 in
    let signs : 1 * (width_of kind + 33) ≤ width_of kind * (width_of kind + 33) = mul-le-mul_right (width_of kind + 33) (kind_some kind some) in
    let gone_stages : width_of kind * (width_of kind + 34 - 1) ≡ width_of kind * (width_of kind + 33) = ap (λ (n : ℕ). width_of kind * n) (omega arith) in
    agg_is c.args.net.now mid new s c.args.operand (Avg c.args.operand) x out (cost_of_average keep (width_of kind)) x.width (width_of kind + 34 - 1)
    (width_of kind + 34 - 1) (average_of kind) value total (omega (arith, lag_small keep)) (omega (arith, signs, gone_stages)) (omega arith) refl value.same_width (λ sets rows. refl)
