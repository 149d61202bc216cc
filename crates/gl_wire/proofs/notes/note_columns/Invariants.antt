use Rattle.std.proofs.Common.{◌≡◌}
use Rattle.gl_wire.proofs.notes.note_columns.Given as goal

abbrev pub invariant-loop-at : goal.invariant-loop-at
invariant-loop-at l = l.net ≡ l.initial.net
