use Rattle.std.proofs.Common.{◌∙◌, refl, sym}
use Rattle.std.specs.Prelude.{codes}
use Rattle.gl_top_forms.proofs.Words.{front_here, front_none}
use Rattle.gl_top_forms.proofs.reading.behind_front.Goals as goal

pub returns-in_err-behind : goal.returns-in_err-behind
returns-in_err-behind c =
    rw (front_none c.args.option.now (codes "=") c.args.word.now (sym c.in_err-behind.ensures), c.from_residual.ensures) refl

pub returns : goal.returns
returns c =
    c.behind-2.ensures ∙ sym (front_here c.args.option.now (codes "=") c.args.word.now c.in_ok-behind.field-0.now (sym c.in_ok-behind.ensures))
