use Rattle.std.proofs.Common.{ap, arith, refl}
use Rattle.gl_algebra.specs.Columns.{kind_of_operand}
use Rattle.gl_values.specs.Kinds.{width_of}
use Rattle.gl_values.specs.Totals.{sum_total}
use Rattle.gl_totals.specs.Costs.{cost_of_fold}
use Rattle.gl_totals.specs.declared.rows.Keep.TheVariants.{Register}
use Rattle.gl_frames_stages.specs.Wholes.{cost_of_all_sum, passed, with_register}
use Rattle.gl_frames_stages.proofs.InputNet.{input_kept}
use Rattle.gl_frames_stages.proofs.WholeNet.{item_as, whole_item}
use Rattle.gl_frames_stages.proofs.whole.put_all_sum.Goals as goal

pub put_operand-requires-clause-source : goal.put_operand-requires-clause-source
put_operand-requires-clause-source c = (input_kept _ _ c.args.input c.in_ok-lines.ensures.keeps c.requires.input).source

pub returns : goal.returns
returns c =
    let input = c.args.input in
    let x = c.in_ok-value.value in
    let wide = c.in_ok-value.ensures.same_width in
    let w = width_of (kind_of_operand input.source.kinds.now c.args.operand) in
    item_as c.args.net.now c.later.new.net (with_register (cost_of_fold Register 1 x.width) x.width) (cost_of_all_sum w) 1 1 x.width w
    (λ sets rows. sum_total x.width (passed sets c.args.filter c.args.operand rows)) (λ sets rows. sum_total w (passed sets c.args.filter c.args.operand rows)) input c.in_ok-out.out
    (omega arith) (omega (arith, wide)) (omega arith) refl wide (λ sets rows. ap (λ n. sum_total n (passed sets c.args.filter c.args.operand rows)) wide)
    (whole_item c.args.net.now c.put_passing.new.net c.put_operand.new.net c.put_sum.new.net c.later.new.net input c.args.filter c.args.operand c.in_ok-lines.lines x c.in_ok-sum.sum c.in_ok-out.out
    (cost_of_fold Register 1 x.width) x.width 0 (sum_total x.width) c.in_ok-lines.ensures c.in_ok-value.ensures c.in_ok-sum.ensures c.in_ok-out.ensures)
