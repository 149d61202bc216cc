use Rattle.gl_wire_registers.specs.Rows.{AddsWires}
use Rattle.gl_wire_registers.proofs.rows.copy_each.Given as goal

abbrev pub invariant-loop-i : goal.invariant-loop-i
invariant-loop-i l = AddsWires l.initial.net l.net l.i l.valids l.ends l.row l.all
