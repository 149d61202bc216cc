use Rattle.gl_wire_registers.specs.Lines.{AddsLines}
use Rattle.gl_slots.specs.Parts.{turned_to}
use Rattle.gl_slots.proofs.parts.turn_lines.Given as goal

abbrev pub invariant-loop-slot : goal.invariant-loop-slot
invariant-loop-slot l = AddsLines l.initial.net l.net l.slot 3 l.all (turned_to l.count l.line l.at)
