use Rattle.std.proofs.Common.{refl}
use Rattle.std.proofs.lemmas.Result.{err_from_is_err_and}
use Rattle.gl_top_forms.specs.declared.command.Part.TheVariants.{Query}
use Rattle.gl_top_forms.proofs.Named.{schema_named}
use Rattle.gl_top_explain.specs.Ending.{AtSchema}
use Rattle.gl_top_explain.proofs.Plans.{plan_leaves}
use Rattle.gl_top_explain.proofs.answering.explain_texts.Goals as goal

pub fetch_schema-requires-clause-named : goal.fetch_schema-requires-clause-named
fetch_schema-requires-clause-named g c = schema_named c.args.words.now Query refl c.requires.named

pub returns-in_err-schema-clause-leaves : goal.returns-in_err-schema-clause-leaves
returns-in_err-schema-clause-leaves g c =
    let p = err_from_is_err_and c.from_residual.result c.from_residual.ensures.1 in
    rw (p.1, p.2) (AtSchema c.in_err-schema.ensures.leaves)

pub returns-clause-leaves : goal.returns-clause-leaves
returns-clause-leaves g c = plan_leaves c.args.words.now c.in_ok-schema.schema _ _ _ c.explain_text.result c.fetch_schema.ensures.stays c.in_ok-schema.ensures.leaves c.in_ok-schema.ensures.passes c.explain_text.ensures.leaves
