use Rattle.std.proofs.Common.{◌∙◌, ap, inl, refl, sym, subst}
use Rattle.gl_outside.specs.States.{IsCalm, ShelfState}
use Rattle.gl_outside.proofs.Counting.{calm_none}
use Rattle.gl_outside.proofs.Takes.{took_none}
use Rattle.gl_top_forms.specs.Help.{help_text}
use Rattle.gl_top_status.specs.declared.refusal.Refusal.TheVariants as refusal
use Rattle.gl_top_inputs.specs.Causes.{change}
use Rattle.gl_top.specs.Verdicts.{OfHelp, Refused}
use Rattle.gl_top.proofs.helping.answer_help.Goals as goal

pub returns-in-Ok : goal.returns-in-Ok
returns-in-Ok g c =
    let shown = c.deref.ensures.value ∙ c.in-Ok.ensures ∙ ap help_text c.topic.ensures in
    c.show_text.ensures.answer (change _ _) (OfHelp c.requires.helps shown refl)
    (subst (λ (s : ShelfState). IsCalm (g.S.Shelf.state c.args.desk.now.shelf) s) (sym c.show_text.ensures.shelf) (calm_none _))

pub returns-in-Err : goal.returns-in-Err
returns-in-Err g c = Refused (record {
  refusal = refusal.Memory;
  cause = calm_none _;
  untouched = took_none _;
  noted = c.tell.ensures;
  left = inl c.requires.empty;
})
