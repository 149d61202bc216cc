use Rattle.std.proofs.Common.{ap, arith, refl, sym, ◌∙◌}
use Rattle.gl_algebra.specs.Columns.{kind_of_operand}
use Rattle.gl_values.specs.Kinds.{width_of}
use Rattle.gl_values.specs.declared.kind.Kind.{Kind}
use Rattle.gl_totals.specs.Costs.{cost_of_extreme}
use Rattle.gl_totals.specs.Totals.{extreme_of}
use Rattle.gl_totals.specs.declared.rows.Keep.TheVariants.{Register}
use Rattle.gl_frames_stages.specs.Wholes.{cost_of_all_extreme, passed, with_register}
use Rattle.gl_frames_stages.proofs.InputNet.{input_kept}
use Rattle.gl_frames_stages.proofs.WholeNet.{item_as, whole_item}
use Rattle.gl_frames_stages.proofs.whole.put_all_extreme.Goals as goal

pub put_operand-requires-clause-source : goal.put_operand-requires-clause-source
put_operand-requires-clause-source c = (input_kept _ _ c.args.input c.in_ok-lines.ensures.keeps c.requires.input).source

pub put_extreme-requires-clause-width : goal.put_extreme-requires-clause-width
put_extreme-requires-clause-width c = c.in_ok-value.ensures.same_width ∙ ap width_of (sym c.kind_of_operand-kind.ensures)

pub returns : goal.returns
returns c =
    let input = c.args.input in
    let x = c.in_ok-value.value in
    let wide = c.in_ok-value.ensures.same_width in
    let kind = kind_of_operand input.source.kinds.now c.args.operand in
    let w = width_of kind in
    let k = c.kind_of_operand-kind.result in
    let is = c.kind_of_operand-kind.ensures in
    item_as c.args.net.now c.later.new.net (with_register (cost_of_extreme Register x.width) x.width) (cost_of_all_extreme w) 1 1 x.width w
    (λ sets rows. extreme_of c.args.extreme k (passed sets c.args.filter c.args.operand rows)) (λ sets rows. extreme_of c.args.extreme kind (passed sets c.args.filter c.args.operand rows)) input c.in_ok-out.out
    (omega arith) (omega (arith, wide)) (omega arith) refl wide (λ sets rows. ap (λ (n : Kind). extreme_of c.args.extreme n (passed sets c.args.filter c.args.operand rows)) is)
    (whole_item c.args.net.now c.put_passing.new.net c.put_operand.new.net c.put_extreme.new.net c.later.new.net input c.args.filter c.args.operand c.in_ok-lines.lines x c.in_ok-best.best c.in_ok-out.out
    (cost_of_extreme Register x.width) x.width 0 (extreme_of c.args.extreme k) c.in_ok-lines.ensures c.in_ok-value.ensures c.in_ok-best.ensures c.in_ok-out.ensures)
