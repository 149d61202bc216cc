use Rattle.std.proofs.Common.{◌≡◌, ◌+◌, ap, arith, sym, subst, ◌∙◌}
use Rattle.gl_algebra.specs.Columns.{kind_of_operand}
use Rattle.gl_values.specs.Kinds.{IsKind, width_of}
use Rattle.gl_values.specs.Totals.{average_of}
use Rattle.gl_values.specs.declared.kind.Kind.{Kind}
use Rattle.gl_totals.proofs.KindLemmas.{operand_kind}
use Rattle.gl_totals.specs.Costs.{cost_of_average}
use Rattle.gl_totals.specs.declared.rows.Keep.TheVariants.{Register}
use Rattle.gl_wire.specs.Costs.{Cost}
use Rattle.gl_frames_stages.specs.Wholes.{cost_of_all_average, passed, with_register}
use Rattle.gl_frames_stages.proofs.InputNet.{input_kept}
use Rattle.gl_frames_stages.proofs.WholeNet.{item_as, whole_item}
use Rattle.gl_frames_stages.proofs.whole.put_all_average.Goals as goal

pub put_operand-requires-clause-source : goal.put_operand-requires-clause-source
put_operand-requires-clause-source c = (input_kept _ _ c.args.input c.in_ok-lines.ensures.keeps c.requires.input).source

pub put_average-requires-clause-width : goal.put_average-requires-clause-width
put_average-requires-clause-width c = c.in_ok-value.ensures.same_width ∙ ap width_of (sym c.kind_of_operand-kind.ensures)

pub put_average-requires-clause-kind : goal.put_average-requires-clause-kind
put_average-requires-clause-kind c =
    subst IsKind (sym c.kind_of_operand-kind.ensures) (operand_kind c.args.input.source.kinds.now c.args.operand c.requires.kinds c.requires.fits)

pub returns : goal.returns
returns c =
    let input = c.args.input in
    let x = c.in_ok-value.value in
    let wide = c.in_ok-value.ensures.same_width in
    let kind = kind_of_operand input.source.kinds.now c.args.operand in
    let w = width_of kind in
    let k = c.kind_of_operand-kind.result in
    let is = c.kind_of_operand-kind.ensures in
    let late : x.width + 33 + 1 ≡ w + 34 = omega (arith, wide) in
    let cost : with_register (cost_of_average Register x.width) x.width ≡ cost_of_all_average w = ap cost_of_all_average wide in
    item_as c.args.net.now c.later.new.net (with_register (cost_of_average Register x.width) x.width) (cost_of_all_average w) (x.width + 33 + 1) (w + 34) x.width w
    (λ sets rows. average_of k (passed sets c.args.filter c.args.operand rows)) (λ sets rows. average_of kind (passed sets c.args.filter c.args.operand rows)) input c.in_ok-out.out
    (omega (arith, ap (λ (e : Cost). e.nodes) cost)) (omega (arith, ap (λ (e : Cost). e.registers) cost)) (omega (arith, ap (λ (e : Cost). e.memories) cost)) late wide
    (λ sets rows. ap (λ (n : Kind). average_of n (passed sets c.args.filter c.args.operand rows)) is)
    (whole_item c.args.net.now c.put_passing.new.net c.put_operand.new.net c.put_average.new.net c.later.new.net input c.args.filter c.args.operand c.in_ok-lines.lines x c.in_ok-average.average c.in_ok-out.out
    (cost_of_average Register x.width) x.width (x.width + 33) (average_of k) c.in_ok-lines.ensures c.in_ok-value.ensures c.in_ok-average.ensures c.in_ok-out.ensures)
