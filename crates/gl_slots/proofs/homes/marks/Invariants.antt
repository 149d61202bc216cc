use Rattle.std.proofs.Common.{suc}
use Rattle.gl_slots.specs.Picks.{AddsNumbers}
use Rattle.gl_slots.proofs.homes.marks.Given as goal

abbrev pub invariant-loop-slot : goal.invariant-loop-slot
invariant-loop-slot l = AddsNumbers l.initial.net l.net (λ k. suc k) l.slot l.width l.all
