use Rattle.gl_figures.specs.Marks.{AreMarkedTo}
use Rattle.std.proofs.Common.{◌≤◌, length}
use Rattle.gl_figures.proofs.marks.mark_down.Given as goal

abbrev pub invariant-loop-number : goal.invariant-loop-number
invariant-loop-number l = record {
  within : l.number ≤ length l.plan;
  marked : AreMarkedTo l.plan l.roots l.number l.marks;
}

abbrev pub decreases-loop-number : goal.decreases-loop-number
decreases-loop-number l = l.number
