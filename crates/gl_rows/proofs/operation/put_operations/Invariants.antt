use Rattle.std.proofs.Common.{take}
use Rattle.gl_rows.specs.Made.{AreOperations}
use Rattle.gl_rows.proofs.operation.put_operations.Given as goal

abbrev pub invariant-loop-op : goal.invariant-loop-op
invariant-loop-op l = AreOperations l.initial.net l.net l.source.columns.now l.source.kinds.now (take l.op-index l.ops) l.all
