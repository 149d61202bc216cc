use Rattle.std.proofs.Common.{◌∙◌, Some, ap, arith}
use Rattle.gl_algebra.specs.declared.node.PlanNode.TheVariants.{Window}
use Rattle.gl_figures.proofs.PrintedLemmas.{inside_there, none_inside}
use Rattle.gl_figures.proofs.RootLemmas.{body_within}
use Rattle.gl_figures.proofs.roots.copies_inside.Goals as goal

pub copies_at-requires-clause-below : goal.copies_at-requires-clause-below
copies_at-requires-clause-below c = rw c.len.ensures.len (body_within c.args.plan.now c.args.root c.node.ensures.plan (c.node.ensures.node ∙ ap Some c.in-Window.is))

pub returns-in-Window : goal.returns-in-Window
returns-in-Window c =
    let is = inside_there c.args.plan.now c.args.root (Window c.in-Window.source c.in-Window.body c.in-Window.size c.in-Window.advance) (c.node.ensures.node ∙ ap Some c.in-Window.is) in
    omega (arith, is, c.cap.ensures, c.copies_at.ensures)

pub returns-in_default : goal.returns-in_default
returns-in_default c = none_inside c.args.plan.now c.args.root c.node.result.now c.node.ensures.node c.in_default.not-Window
