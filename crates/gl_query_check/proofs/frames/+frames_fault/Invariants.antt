use Rattle.std.proofs.Common.{◌-◌, length}
use Rattle.gl_query_check.proofs.frames.+frames_fault.Given as goal

abbrev pub decreases-frames_fault : goal.decreases-frames_fault
decreases-frames_fault l = length l.frames.now - l.number
