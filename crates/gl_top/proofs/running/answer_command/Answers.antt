use Rattle.std.proofs.Common.{inl, inr, refl, sym, subst}
use Rattle.gl_outside.specs.States.{IsCalm, ShelfState}
use Rattle.gl_outside.proofs.Counting.{calm_none}
use Rattle.gl_top_forms.specs.declared.command.Command.{Command}
use Rattle.gl_top_forms.specs.Forms.{IsCommand}
use Rattle.gl_top_inputs.specs.Causes.{change}
use Rattle.gl_top.specs.Verdicts.{OfVersion}
use Rattle.gl_top.proofs.Answering.{answer_text}
use Rattle.gl_top.proofs.Explained.{explain_answer}
use Rattle.gl_top.proofs.running.answer_command.Goals as goal

pub returns-in-Explain : goal.returns-in-Explain
returns-in-Explain g c =
    let is = subst (λ (k : Command). IsCommand c.args.words.now k) c.in-Explain.is c.requires.command in
    answer_text _ _ _ _ _ _ _ (sym c.requires.empty) (explain_answer c.args.words.now _ _ _ _ _ is c.answer_explain.ensures)

pub returns-in-Version : goal.returns-in-Version
returns-in-Version g c =
    let is = subst (λ (k : Command). IsCommand c.args.words.now k) c.in-Version.is c.requires.command in
    c.show_text.ensures.answer (change _ _) (OfVersion is c.version_text.ensures refl)
    (subst (λ (s : ShelfState). IsCalm (g.S.Shelf.state c.args.desk.now.shelf) s) (sym c.show_text.ensures.shelf) (calm_none _))

pub answer_help-requires-clause-helps : goal.answer_help-requires-clause-helps
answer_help-requires-clause-helps g c = inl (subst (λ (k : Command). IsCommand c.args.words.now k) c.in-HelpOf.is c.requires.command)

pub answer_help-requires-in-Help-clause-helps : goal.answer_help-requires-in-Help-clause-helps
answer_help-requires-in-Help-clause-helps g c = inr (inl (subst (λ (k : Command). IsCommand c.args.words.now k) c.in-Help.is c.requires.command))

pub answer_help-requires-in-DashedHelp-clause-helps : goal.answer_help-requires-in-DashedHelp-clause-helps
answer_help-requires-in-DashedHelp-clause-helps g c = inr (inr (subst (λ (k : Command). IsCommand c.args.words.now k) c.in-DashedHelp.is c.requires.command))
