use Rattle.std.proofs.Common.{refl}
use Rattle.gl_top_forms.specs.declared.command.Part.TheVariants.{Query}
use Rattle.gl_top_forms.proofs.Named.{schema_named}
use Rattle.gl_top_inputs.specs.Causes.{change}
use Rattle.gl_top_inputs.proofs.Changes.{handed_on, leaves_later}
use Rattle.gl_top_inputs.proofs.Texts.{no_schema_cause, run_names_query}
use Rattle.gl_top_inputs.proofs.judging.judge_run.Goals as goal

pub keep_schema-requires-clause-named : goal.keep_schema-requires-clause-named
keep_schema-requires-clause-named g c = schema_named c.args.words.now Query refl (run_names_query c.args.words.now c.requires.runs)

pub returns-in_err-schema-clause-leaves : goal.returns-in_err-schema-clause-leaves
returns-in_err-schema-clause-leaves g c =
    handed_on c.args.words.now _ _ c.from_residual.result _ c.from_residual.ensures.1
    (no_schema_cause c.args.words.now (change (g.S.Shelf.state c.args.shelf.now) (g.S.Shelf.state c.keep_schema.new.shelf)) _ (schema_named c.args.words.now Query refl (run_names_query c.args.words.now c.requires.runs)) c.in_err-schema.ensures.leaves)

pub returns-clause-leaves : goal.returns-clause-leaves
returns-clause-leaves g c = leaves_later _ _ _ _ c.judge_rest.result c.keep_schema.ensures.stays c.in_ok-schema.ensures.leaves c.judge_rest.ensures.leaves
