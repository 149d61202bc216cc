use Rattle.gl_top_forms.specs.declared.command.Part.TheVariants.{Module}
use Rattle.gl_top_inputs.specs.Causes.{IsModuleFaultOrMemory, change}
use Rattle.gl_top_inputs.proofs.Changes.{handed_on}
use Rattle.gl_top_inputs.proofs.Modules.{module_cause}
use Rattle.gl_top_inputs.proofs.Texts.{sim_names_module, unfetched_cause}
use Rattle.std.proofs.Common.{List, ℕ, subst}
use Rattle.gl_top_inputs.proofs.simulating.judge_module.Goals as goal

pub fetch-requires-clause-named : goal.fetch-requires-clause-named
fetch-requires-clause-named g c = sim_names_module c.args.words.now c.requires.sims

pub returns-in_err-text-clause-leaves : goal.returns-in_err-text-clause-leaves
returns-in_err-text-clause-leaves g c =
    handed_on c.args.words.now _ _ c.from_residual.result _ c.from_residual.ensures.1
    (unfetched_cause c.args.words.now (change (g.S.Shelf.state c.args.shelf.now) (g.S.Shelf.state c.fetch.new.shelf)) Module _ (c.requires.sims, c.args.schema.now, c.requires.passes) c.in_err-text.ensures.leaves)

pub returns-in_err-fitted_of-clause-leaves : goal.returns-in_err-fitted_of-clause-leaves
returns-in_err-fitted_of-clause-leaves g c =
    let fault = c.in_err-fitted_of.field-0.0 in
    let is = subst (λ (v : List ℕ). IsModuleFaultOrMemory c.args.schema.now v fault) c.deref.ensures.value c.in_err-fitted_of.ensures.fault in
    handed_on c.args.words.now _ _ c.from_residual-in_err-fitted_of.result _ c.from_residual-in_err-fitted_of.ensures.1
    (module_cause c.args.words.now (change (g.S.Shelf.state c.args.shelf.now) (g.S.Shelf.state c.fetch.new.shelf)) c.in_ok-text.text.items c.args.schema.now fault c.requires.sims c.in_ok-text.ensures.leaves c.requires.passes c.in_ok-text.ensures.text is)
