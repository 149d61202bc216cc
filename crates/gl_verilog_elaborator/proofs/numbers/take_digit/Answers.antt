use Rattle.std.proofs.Common.{◌∙◌, ap, List, ℕ}
use Rattle.std.proofs.lemmas.Bool.{ne_eqb}
use Rattle.gl_verilog_elaborator.specs.Numbers.{grown}
use Rattle.gl_verilog_elaborator.proofs.Powers.{taken}
use Rattle.gl_verilog_elaborator.proofs.numbers.take_digit.Goals as goal

pub returns : goal.returns
returns c = taken c.args.radix c.args.limbs.items c.in_ok-grown.grown.items c.args.b c.digit_of.result (ne_eqb c.args.b 95 c.if-b-eq95.false) c.digit_of.ensures (c.in_ok-grown.ensures ∙ ap (λ (xs : List ℕ). grown c.args.radix c.digit_of.result xs) c.deref.ensures.value)
