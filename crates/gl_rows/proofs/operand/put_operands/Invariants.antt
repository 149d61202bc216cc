use Rattle.std.proofs.Common.{take}
use Rattle.gl_rows.specs.Made.{AreOperands}
use Rattle.gl_rows.proofs.operand.put_operands.Given as goal

abbrev pub invariant-loop-operand : goal.invariant-loop-operand
invariant-loop-operand l = AreOperands l.initial.net l.net l.source.columns.now l.source.kinds.now (take l.operand-index l.operands) l.all
