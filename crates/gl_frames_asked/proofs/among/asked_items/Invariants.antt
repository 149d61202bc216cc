use Rattle.std.proofs.Common.{◌≡◌, map, take}
use Rattle.gl_frames_asked.specs.Among.{renumber}
use Rattle.gl_frames_asked.proofs.among.asked_items.Given as goal

abbrev pub invariant-loop-item : goal.invariant-loop-item
invariant-loop-item l = l.made.items ≡ map (renumber l.asked) (take l.item-index l.items)
