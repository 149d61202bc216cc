use Rattle.std.proofs.Common.{take}
use Rattle.gl_queue.specs.Parts.{AreStored}
use Rattle.gl_queue.proofs.ring.put_columns.Given as goal

abbrev pub invariant-loop-bus : goal.invariant-loop-bus
invariant-loop-bus l = AreStored l.initial.net l.net l.bits l.push l.at.tail l.at.head (take l.bus-index l.columns) l.all
