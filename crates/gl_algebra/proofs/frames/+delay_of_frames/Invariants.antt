use Rattle.std.proofs.Common.{length}
use Rattle.gl_algebra.proofs.frames.+delay_of_frames.Given as goal

abbrev pub decreases-delay_of_frames : goal.decreases-delay_of_frames
decreases-delay_of_frames l = length l.items.now
