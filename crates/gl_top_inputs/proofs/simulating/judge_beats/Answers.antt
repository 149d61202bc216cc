use Rattle.std.proofs.Common.{List, ℕ, subst}
use Rattle.gl_tuple_reader.specs.Entries.{Fails}
use Rattle.gl_tuple_reader.specs.Filing.{records_of}
use Rattle.gl_tuple_reader.specs.Settings.{beats_of}
use Rattle.gl_verilog.specs.View.{module_of}
use Rattle.gl_top_forms.specs.declared.command.Part.TheVariants.{Tuples}
use Rattle.gl_top_inputs.specs.Causes.{OfSim, change}
use Rattle.gl_top_inputs.proofs.Changes.{handed_on}
use Rattle.gl_top_inputs.proofs.Texts.{file_cause, sim_names_tuples, unfetched_cause}
use Rattle.gl_top_inputs.proofs.simulating.judge_beats.Goals as goal

pub fetch-requires-clause-named : goal.fetch-requires-clause-named
fetch-requires-clause-named g c = sim_names_tuples c.args.words.now c.requires.passes.sims

pub returns-in_err-text-clause-leaves : goal.returns-in_err-text-clause-leaves
returns-in_err-text-clause-leaves g c =
    handed_on c.args.words.now _ _ c.from_residual.result _ c.from_residual.ensures.1
    (unfetched_cause c.args.words.now (change (g.S.Shelf.state c.args.shelf.now) (g.S.Shelf.state c.fetch.new.shelf)) Tuples _ (OfSim c.args.schema.now (module_of c.args.design.now) c.requires.passes) c.in_err-text.ensures.leaves)

pub returns-in_err-read_tuples-clause-leaves : goal.returns-in_err-read_tuples-clause-leaves
returns-in_err-read_tuples-clause-leaves g c =
    let fault = c.in_err-read_tuples.field-0.0 in
    let fails = subst (λ (v : List ℕ). Fails fault (beats_of c.args.schema.now (records_of v))) c.deref.ensures.value c.in_err-read_tuples.ensures.exact in
    handed_on c.args.words.now _ _ c.from_residual-in_err-read_tuples.result _ c.from_residual-in_err-read_tuples.ensures.1
    (file_cause c.args.words.now (change (g.S.Shelf.state c.args.shelf.now) (g.S.Shelf.state c.fetch.new.shelf)) c.in_ok-text.text.items c.args.schema.now (module_of c.args.design.now) fault c.in_ok-text.ensures.leaves c.requires.passes c.in_ok-text.ensures.text fails)
