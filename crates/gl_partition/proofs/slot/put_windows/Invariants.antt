use Rattle.gl_partition.specs.Fronts.{AddsSlots}
use Rattle.gl_partition.proofs.slot.put_windows.Given as goal

abbrev pub invariant-loop-i : goal.invariant-loop-i
invariant-loop-i l = AddsSlots l.initial.net l.net l.comes.valid l.comes.eos l.comes.tail l.matches l.dues l.sizes.size l.sizes.advance l.sizes.copies l.i (record { takes = l.takes; ends = l.ends })
