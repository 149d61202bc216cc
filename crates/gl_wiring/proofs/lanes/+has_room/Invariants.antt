use Rattle.std.proofs.Common.{length}
use Rattle.gl_wiring.proofs.lanes.+has_room.Given as goal

abbrev pub decreases-has_room : goal.decreases-has_room
decreases-has_room l = length l.aggs.now
