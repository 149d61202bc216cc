use Rattle.std.proofs.Common.{◌≡◌, ℕ, Some, slice_get, sym, subst, arith}
use Rattle.gl_figures.proofs.FiguredLemmas.{names_before, figured_next, figured_late}
use Rattle.gl_figures.proofs.figured.figures.Goals as goal

pub figures_over-requires-clause-before : goal.figures_over-requires-clause-before
figures_over-requires-clause-before c =
    let is = subst (λ (n : ℕ). slice_get c.args.plan.now n ≡ Some c.node.result.now) c.id.ensures.number c.node.ensures.node in
    names_before c.args.plan.now c.loop-number.number c.node.result.now c.node.ensures.plan is

pub figures_over-requires-clause-fits : goal.figures_over-requires-clause-fits
figures_over-requires-clause-fits c =
    let is = subst (λ (n : ℕ). slice_get c.args.plan.now n ≡ Some c.node.result.now) c.id.ensures.number c.node.ensures.node in
    c.node.ensures.plan.fits c.loop-number.number c.node.result.now is

pub returns-in-None-clause-err : goal.returns-in-None-clause-err
returns-in-None-clause-err c =
    let is = subst (λ (n : ℕ). slice_get c.args.plan.now n ≡ Some c.node.result.now) c.id.ensures.number c.node.ensures.node in
    figured_late c.nodes_follow_tables.ensures c.args.plan.now c.loop-number.number c.node.result.now c.node.ensures.plan is
    c.args.into.now c.loop-number.into c.loop-number.invariant (sym c.in-None.ensures)

pub loop-number-preserved : goal.loop-number-preserved
loop-number-preserved c =
    let is = subst (λ (n : ℕ). slice_get c.args.plan.now n ≡ Some c.node.result.now) c.id.ensures.number c.node.ensures.node in
    figured_next c.nodes_follow_tables.ensures c.args.plan.now c.loop-number.number c.node.result.now c.node.ensures.plan is
    c.args.into.now c.loop-number.into c.in-Some.own c.loop-number.invariant (omega arith) (sym c.in-Some.ensures)
