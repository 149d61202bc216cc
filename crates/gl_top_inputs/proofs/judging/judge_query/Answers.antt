use Rattle.gl_top_forms.specs.declared.command.Part.TheVariants.{Query}
use Rattle.gl_top_inputs.specs.Causes.{change}
use Rattle.gl_top_inputs.proofs.Changes.{handed_on}
use Rattle.gl_top_inputs.proofs.Texts.{unfetched_cause}
use Rattle.gl_top_inputs.proofs.judging.judge_query.Goals as goal

pub returns-in_err-text-clause-leaves : goal.returns-in_err-text-clause-leaves
returns-in_err-text-clause-leaves g c =
    handed_on c.args.words.now _ _ c.from_residual.result _ c.from_residual.ensures.1
    (unfetched_cause c.args.words.now (change (g.S.Shelf.state c.args.shelf.now) (g.S.Shelf.state c.fetch.new.shelf)) Query _ (c.requires.named, c.args.schema, c.requires.passes) c.in_err-text.ensures.leaves)
