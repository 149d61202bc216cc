use Rattle.std.proofs.Common.{arith}
use Rattle.gl_figures.proofs.MarkLemmas.{first_marked, last_marked, one_down}
use Rattle.gl_figures.proofs.marks.mark_down.Goals as goal

pub loop-number-init : goal.loop-number-init
loop-number-init c = record {
  within = omega (arith, c.len-number.ensures.len);
  marked = rw (c.mark_roots.ensures, c.len-number.ensures.len, c.requires.none) (first_marked c.args.plan.now c.len-number.ensures.plan c.args.roots.now c.requires.roots);
}

pub returns : goal.returns
returns c = last_marked c.args.plan.now c.len-number.ensures.plan c.args.roots.now c.requires.roots c.loop-number.number (omega (arith, c.loop-number-test.false)) _ c.loop-number.invariant.marked

pub loop-number-preserved : goal.loop-number-preserved
loop-number-preserved c = record {
  within = omega (arith, c.loop-number.invariant.within);
  marked = c.mark_below.ensures c.args.roots.now c.requires.roots (one_down c.args.plan.now c.args.roots.now c.loop-number.number
      (omega (arith, c.loop-number-test.true)) _ c.loop-number.invariant.marked);
}
