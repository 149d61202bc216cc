use Rattle.std.proofs.Common.{ℕ, [], ◌∷◌, ◌++◌, ap, ◌∙◌}
use Rattle.gl_vcd.specs.Written.{binary}
use Rattle.gl_vcd.proofs.Digits.{wide_text}
use Rattle.gl_vcd.proofs.writing.value_into.Goals as goal

pub returns-clause-written : goal.returns-clause-written
returns-clause-written c =
    c.vector_into.ensures.written ∙ ap (λ (v : ℕ). 98 ∷ (binary v ++ 32 ∷ [])) c.bits-2.ensures.value
    ∙ wide_text c.args.word (λ e. c.if-width-eq1.false (c.width.ensures.value ∙ e))
