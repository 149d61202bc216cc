use Rattle.gl_wire_registers.specs.Lines.{AddsLines}
use Rattle.gl_slots.specs.Choices.{chosen_to}
use Rattle.gl_slots.proofs.choices.choose_each.Given as goal

abbrev pub invariant-loop-i : goal.invariant-loop-i
invariant-loop-i l = AddsLines l.initial.net l.net l.i 1 l.all (chosen_to l.test l.yes l.no)
