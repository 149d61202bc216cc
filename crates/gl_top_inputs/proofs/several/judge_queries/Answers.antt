use Rattle.std.proofs.Common.{List, ℕ, sym, subst}
use Rattle.gl_many.specs.Queries.{AreRefused}
use Rattle.gl_top_forms.specs.declared.command.Part.TheVariants.{Queries}
use Rattle.gl_top_inputs.specs.Causes.{HasCause, change}
use Rattle.gl_top_inputs.proofs.Changes.{handed_on}
use Rattle.gl_top_inputs.proofs.Texts.{queries_cause, unfetched_cause}
use Rattle.gl_top_inputs.proofs.several.judge_queries.Goals as goal

pub returns-in_err-text-clause-leaves : goal.returns-in_err-text-clause-leaves
returns-in_err-text-clause-leaves g c =
    handed_on c.args.words.now _ _ c.from_residual.result _ c.from_residual.ensures.1
    (unfetched_cause c.args.words.now (change (g.S.Shelf.state c.args.shelf.now) (g.S.Shelf.state c.fetch.new.shelf)) Queries _ (c.requires.named, c.args.schema, c.requires.passes) c.in_err-text.ensures.leaves)

pub returns-clause-leaves : goal.returns-clause-leaves
returns-clause-leaves g c =
    let ch = change (g.S.Shelf.state c.args.shelf.now) (g.S.Shelf.state c.fetch.new.shelf) in
    let fault = c.in-Err.fault in
    let is = subst (λ (v : List ℕ). AreRefused c.args.schema v fault) c.deref.ensures.value c.in-Err.ensures.cause in
    let cause = queries_cause c.args.words.now ch c.in_ok-text.text.items c.args.schema fault c.in_ok-text.ensures.leaves c.requires.named c.requires.passes c.in_ok-text.ensures.text is in
    subst (HasCause c.args.words.now ch) (sym c.compile_refusal.ensures) cause
