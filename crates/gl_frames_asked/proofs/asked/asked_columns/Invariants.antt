use Rattle.std.proofs.Common.{◌≡◌}
use Rattle.gl_frames_asked.specs.Asked.{asked_columns}
use Rattle.gl_frames_asked.proofs.asked.asked_columns.Given as goal

abbrev pub invariant-loop-column : goal.invariant-loop-column
invariant-loop-column l = l.asked.items ≡ asked_columns l.column l.key l.items
