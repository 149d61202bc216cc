use Rattle.std.proofs.Common.{take}
use Rattle.gl_queue.specs.JoinLines.{AreKept}
use Rattle.gl_queue.proofs.joiner.put_row.Given as goal

abbrev pub invariant-loop-bus : goal.invariant-loop-bus
invariant-loop-bus l = AreKept l.initial.net l.net l.valid (take l.bus-index l.columns) l.all
