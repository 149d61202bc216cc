use Rattle.std.proofs.Common.{length}
use Rattle.gl_query.proofs.columns.+columns_named.Given as goal

abbrev pub decreases-columns_named : goal.decreases-columns_named
decreases-columns_named l = length l.streams.now
