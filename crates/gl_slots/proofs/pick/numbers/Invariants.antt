use Rattle.gl_slots.specs.Picks.{AddsNumbers}
use Rattle.gl_slots.proofs.pick.numbers.Given as goal

abbrev pub invariant-loop-place : goal.invariant-loop-place
invariant-loop-place l = AddsNumbers l.initial.net l.net (λ k. k) l.place l.width l.all
