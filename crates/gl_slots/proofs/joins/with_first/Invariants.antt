use Rattle.std.proofs.Common.{◌≡◌, ◌∷◌, take}
use Rattle.gl_slots.proofs.joins.with_first.Given as goal

abbrev pub invariant-loop-bus : goal.invariant-loop-bus
invariant-loop-bus l = l.all ≡ l.fn.first ∷ take l.bus-index l.others
