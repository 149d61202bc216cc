use Rattle.std.proofs.Common.{take}
use Rattle.gl_wire_registers.specs.Registers.{DrivesAll}
use Rattle.gl_wire_registers.proofs.registers.drive_all.Given as goal

abbrev pub invariant-loop-i : goal.invariant-loop-i
invariant-loop-i l = DrivesAll l.initial.net l.net (take l.i l.registers) l.nexts
