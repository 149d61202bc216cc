use Rattle.std.proofs.Common.{length}
use Rattle.gl_slots.proofs.pick.+pick_of.Given as goal

abbrev pub decreases-pick_of : goal.decreases-pick_of
decreases-pick_of l = length l.lines.now
