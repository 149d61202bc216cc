use Rattle.std.proofs.Common.{length}
use Rattle.gl_explain.proofs.lines.+put_frames.Given as goal

abbrev pub decreases-put_frames : goal.decreases-put_frames
decreases-put_frames l = length l.items.now
