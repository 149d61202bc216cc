use Rattle.std.proofs.Common.{None, sym, ◌∙◌}
use Rattle.std.specs.Prelude.{◌^◌, nat_lt}
use Rattle.std.proofs.lemmas.Bool.{cond-false}
use Rattle.gl_vcd.specs.Reading.{binary_in}
use Rattle.gl_vcd.proofs.Bits.{past_width}
use Rattle.gl_vcd.proofs.changing.word_in.Goals as goal

pub returns-in_err-binary_in : goal.returns-in_err-binary_in
returns-in_err-binary_in c =
    let n = binary_in c.args.digits.now in
    c.from_residual.ensures ∙ sym (cond-false (nat_lt n (2 ^ c.args.width)) _ None (past_width n c.args.width c.requires.width.most c.in_err-binary_in.ensures))
