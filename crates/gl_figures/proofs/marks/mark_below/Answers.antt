use Rattle.std.proofs.Common.{◌∙◌, sym, ap, slice_get}
use Rattle.gl_figures.proofs.MarkLemmas.{children_inside, step_marked}
use Rattle.gl_figures.proofs.marks.mark_below.Goals as goal

pub mark_children-requires : goal.mark_children-requires
mark_children-requires c =
    children_inside c.args.plan.now c.node-node.ensures.plan c.args.number c.node-node.result.now
    (ap (slice_get c.args.plan.now) (sym c.id.ensures.number) ∙ c.node-node.ensures.node) _ c.requires.long

pub returns-then-marks-number : goal.returns-then-marks-number
returns-then-marks-number c roots rooted h =
    rw c.mark_children.ensures (step_marked c.args.plan.now c.node-node.ensures.plan c.args.number c.node-node.result.now
    (ap (slice_get c.args.plan.now) (sym c.id.ensures.number) ∙ c.node-node.ensures.node) c.args.marks.now c.if-marks-number.true roots rooted h)
