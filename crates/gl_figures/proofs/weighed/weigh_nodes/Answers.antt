use Rattle.std.proofs.Common.{◌≡◌, ℕ, Some, slice_get, ap, ◌∙◌, subst, arith}
use Rattle.gl_algebra.specs.Shapes.{shape_of}
use Rattle.gl_algebra.specs.Weights.{lines_of}
use Rattle.gl_figures.proofs.FiguredLemmas.{names_before}
use Rattle.gl_figures.proofs.WeighedLemmas.{weighed_next}
use Rattle.gl_figures.proofs.weighed.weigh_nodes.Goals as goal

pub weight_over-requires-clause-before : goal.weight_over-requires-clause-before
weight_over-requires-clause-before c =
    let is = subst (λ (n : ℕ). slice_get c.args.plan.now n ≡ Some c.node.result.now) c.id-id.ensures.number c.node.ensures.node in
    names_before c.args.plan.now c.loop-number.number c.node.result.now c.node.ensures.plan is

pub weight_over-requires-clause-fits : goal.weight_over-requires-clause-fits
weight_over-requires-clause-fits c =
    let is = subst (λ (n : ℕ). slice_get c.args.plan.now n ≡ Some c.node.result.now) c.id-id.ensures.number c.node.ensures.node in
    c.node.ensures.plan.fits c.loop-number.number c.node.result.now is

pub loop-number-preserved : goal.loop-number-preserved
loop-number-preserved c =
    let is = subst (λ (n : ℕ). slice_get c.args.plan.now n ≡ Some c.node.result.now) c.id-id.ensures.number c.node.ensures.node in
    let lined = c.lines_of-lines.ensures.value ∙ ap (λ (n : ℕ). lines_of (shape_of c.args.plan.now n)) c.id-id.ensures.number in
    weighed_next c.nodes_follow_tables.ensures c.args.plan.now c.loop-number.number c.node.result.now c.node.ensures.plan is
    c.loop-number.into c.weight_over.result (omega arith) c.lines_of-lines.result lined c.loop-number.invariant c.weight_over.ensures
