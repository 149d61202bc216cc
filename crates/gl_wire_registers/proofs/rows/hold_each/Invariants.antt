use Rattle.std.proofs.Common.{take}
use Rattle.gl_wire_registers.specs.Rows.{HoldsRow}
use Rattle.gl_wire_registers.proofs.rows.hold_each.Given as goal

abbrev pub invariant-loop-bus : goal.invariant-loop-bus
invariant-loop-bus l = HoldsRow l.initial.net l.net l.load (take l.bus-index l.columns) l.all
