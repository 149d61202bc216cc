use Rattle.std.proofs.Common.{◌≡◌, take}
use Rattle.gl_frames_asked.specs.Among.{pick_kinds}
use Rattle.gl_frames_asked.proofs.among.asked_kinds.Given as goal

abbrev pub invariant-loop-column : goal.invariant-loop-column
invariant-loop-column l = l.picked.items ≡ pick_kinds (take l.column-index l.asked) l.kinds
