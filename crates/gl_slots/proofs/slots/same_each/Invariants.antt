use Rattle.gl_wire_registers.specs.Lines.{AddsLines}
use Rattle.gl_slots.specs.SlotLines.{same_to}
use Rattle.gl_slots.proofs.slots.same_each.Given as goal

abbrev pub invariant-loop-key : goal.invariant-loop-key
invariant-loop-key l = AddsLines l.initial.net l.net l.key-index 1 l.all (same_to l.value l.keys)
