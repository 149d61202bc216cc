use Rattle.std.proofs.lemmas.Option.{slice_get_within}
use Rattle.gl_algebra.specs.declared.node.PlanNode.TheVariants.{Window}
use Rattle.gl_wiring.proofs.WindowLemmas.{in_body, rotation_is, some_step}
use Rattle.gl_wiring.proofs.windows.WindowOf.rotation.Goals as goal

pub figures_at-requires : goal.figures_at-requires
figures_at-requires c =
    let w = c.args.self.now in
    slice_get_within c.args.site.plan.now w.id (Window w.source w.body w.size w.advance) c.requires.node

pub figures_at-body-requires : goal.figures_at-body-requires
figures_at-body-requires c = in_body c.laws_below.ensures c.args.site.plan.now c.args.self.now c.args.site.planned c.requires.node

pub copies_of_window-copies-requires : goal.copies_of_window-copies-requires
copies_of_window-copies-requires c = some_step c.laws_below.ensures c.args.site.plan.now c.args.self.now c.args.site.planned c.requires.node

pub returns-clause-is : goal.returns-clause-is
returns-clause-is c =
    rw (c.figures_at-body.ensures.value, c.copies_of_window-copies.ensures) (rotation_is c.laws_below.ensures c.args.site.plan.now c.args.self.now c.args.site.planned c.requires.node
    (rw c.figures_at.ensures.value at c.figures_at.ensures.small))
