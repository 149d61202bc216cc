use Rattle.gl_slots.specs.SlotLines.{AddsNexts}
use Rattle.gl_slots.proofs.slots.key_each.Given as goal

abbrev pub invariant-loop-i : goal.invariant-loop-i
invariant-loop-i l = AddsNexts l.initial.net l.net l.nexts l.value l.keys l.i l.all
