use Rattle.std.proofs.Common.{take}
use Rattle.gl_wire_registers.specs.Registers.{Opens}
use Rattle.gl_wire_registers.proofs.registers.open_all.Given as goal

abbrev pub invariant-loop-reset : goal.invariant-loop-reset
invariant-loop-reset l = Opens l.initial.net l.net (take l.reset-index l.resets) l.all
