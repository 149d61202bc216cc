use Rattle.std.proofs.Common.{take}
use Rattle.gl_queue.specs.MergeLines.{AreChosenOf}
use Rattle.gl_queue.proofs.merge.choose_all.Given as goal

abbrev pub invariant-loop-i : goal.invariant-loop-i
invariant-loop-i l = AreChosenOf l.initial.net l.net l.test (take l.i l.yes) (take l.i l.no) l.all
