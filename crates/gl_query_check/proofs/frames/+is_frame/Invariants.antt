use Rattle.std.proofs.Common.{length}
use Rattle.gl_query_check.proofs.frames.+is_frame.Given as goal

abbrev pub decreases-is_frame : goal.decreases-is_frame
decreases-is_frame l = length l.frames.now
