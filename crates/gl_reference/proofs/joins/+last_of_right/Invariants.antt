use Rattle.std.proofs.Common.{length}
use Rattle.gl_reference.proofs.joins.+last_of_right.Given as goal

abbrev pub decreases-last_of_right : goal.decreases-last_of_right
decreases-last_of_right l = length l.rows.now
