use Rattle.std.proofs.Common.{◌+◌, length}
use Rattle.gl_reference.proofs.placed.+add_by_arrival.Given as goal

abbrev pub decreases-add_by_arrival : goal.decreases-add_by_arrival
decreases-add_by_arrival l = length l.left.now + length l.right.now
