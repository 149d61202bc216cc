use Rattle.std.proofs.Common.{take}
use Rattle.gl_wire_registers.specs.Backs.{ChoosesRow}
use Rattle.gl_wire_registers.proofs.back.choose_row.Given as goal

abbrev pub invariant-loop-i : goal.invariant-loop-i
invariant-loop-i l = ChoosesRow l.initial.net l.net l.test (take l.i l.first) (take l.i l.second) l.all
