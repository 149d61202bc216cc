use Rattle.std.proofs.lemmas.Option.{slice_get_within}
use Rattle.gl_algebra.specs.declared.node.PlanNode.TheVariants.{Group}
use Rattle.gl_wiring.proofs.GroupLemmas.{grouping_is, in_body}
use Rattle.gl_wiring.proofs.groups.GroupOf.grouping.Goals as goal

pub figures_at-requires : goal.figures_at-requires
figures_at-requires c =
    let g = c.args.self.now in
    slice_get_within c.args.site.plan.now g.id (Group g.source g.body g.key g.groups) c.requires.node

pub figures_at-body-requires : goal.figures_at-body-requires
figures_at-body-requires c = in_body c.laws_below.ensures c.args.site.plan.now c.args.self.now c.args.site.planned c.requires.node

pub returns-clause-is : goal.returns-clause-is
returns-clause-is c =
    rw (c.figures_at-body.ensures.value, c.from.ensures, c.from-2.ensures) (grouping_is c.laws_below.ensures c.args.site.plan.now c.args.self.now c.args.site.planned c.requires.node
    (rw c.figures_at.ensures.value at c.figures_at.ensures.small))
