use Rattle.gl_slots.specs.Joins.{AreKeyed}
use Rattle.gl_slots.proofs.joins.key_wires.Given as goal

abbrev pub invariant-loop-i : goal.invariant-loop-i
invariant-loop-i l = AreKeyed l.copies l.keys l.i l.all
