use Rattle.std.proofs.Common.{length}
use Rattle.gl_wire_registers.proofs.joins.+lines_of_copies.Given as goal

abbrev pub decreases-lines_of_copies : goal.decreases-lines_of_copies
decreases-lines_of_copies l = length l.copies.now
