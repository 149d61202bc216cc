use Rattle.std.proofs.Common.{length}
use Rattle.gl_query.proofs.kinds.+column_number.Given as goal

abbrev pub decreases-column_number : goal.decreases-column_number
decreases-column_number l = length l.columns.now
