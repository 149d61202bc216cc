use Rattle.gl_slots.specs.SlotLines.{AddsAsks}
use Rattle.gl_slots.proofs.slots.ask_each.Given as goal

abbrev pub invariant-loop-line : goal.invariant-loop-line
invariant-loop-line l = AddsAsks l.initial.net l.net l.fn.ask l.kept l.line-index (record { asks = l.asks; passes = l.passes })
