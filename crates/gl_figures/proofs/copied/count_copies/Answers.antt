use Rattle.std.proofs.Common.{◌≡◌, ℕ, Some, slice_get, subst, arith}
use Rattle.gl_figures.proofs.FiguredLemmas.{names_before}
use Rattle.gl_figures.proofs.WeighedLemmas.{copied_next}
use Rattle.gl_figures.proofs.copied.count_copies.Goals as goal

pub copies_over-requires-clause-before : goal.copies_over-requires-clause-before
copies_over-requires-clause-before c =
    let is = subst (λ (n : ℕ). slice_get c.args.plan.now n ≡ Some c.node.result.now) c.id.ensures.number c.node.ensures.node in
    names_before c.args.plan.now c.loop-number.number c.node.result.now c.node.ensures.plan is

pub copies_over-requires-clause-fits : goal.copies_over-requires-clause-fits
copies_over-requires-clause-fits c =
    let is = subst (λ (n : ℕ). slice_get c.args.plan.now n ≡ Some c.node.result.now) c.id.ensures.number c.node.ensures.node in
    c.node.ensures.plan.fits c.loop-number.number c.node.result.now is

pub loop-number-preserved : goal.loop-number-preserved
loop-number-preserved c =
    let is = subst (λ (n : ℕ). slice_get c.args.plan.now n ≡ Some c.node.result.now) c.id.ensures.number c.node.ensures.node in
    copied_next c.nodes_follow_tables.ensures c.args.plan.now c.loop-number.number c.node.result.now c.node.ensures.plan is
    c.loop-number.into c.copies_over.result (omega arith) c.loop-number.invariant c.copies_over.ensures
