use Rattle.std.proofs.Common.{length}
use Rattle.gl_elaborate.proofs.frames.+push_frames.Given as goal

abbrev pub decreases-push_frames : goal.decreases-push_frames
decreases-push_frames l = length l.items.now
