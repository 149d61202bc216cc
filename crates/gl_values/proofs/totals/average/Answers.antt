use Rattle.std.proofs.Common.{ℕ, ◌+◌, ◌%◌, ◌^◌, ap, arith, ◌∙◌}
use Rattle.gl_values.specs.Kinds.{width_of}
use Rattle.gl_values.specs.Totals.{sum_of_numbers}
use Rattle.gl_values.proofs.Signs.{word_cut}
use Rattle.gl_values.proofs.Totalling.{average_is}
use Rattle.gl_values.proofs.totals.average.Goals as goal

pub returns : goal.returns
returns c =
    let kind = c.args.kind in
    let xs = c.args.values.now in
    let is = c.wrapped-sum.ensures
    ∙ ap (λ (w : ℕ). c.sum_of_numbers.result % 2 ^ (w + 32)) c.width.ensures
    ∙ ap (λ (n : ℕ). n % 2 ^ (width_of kind + 32)) c.sum_of_numbers.ensures
    ∙ word_cut 128 (width_of kind + 32) (sum_of_numbers kind xs) (omega (arith, c.requires.1)) in
    c.quotient.ensures ∙ average_is kind xs c.wrapped-sum.result c.count-number.result is c.count-number.ensures
