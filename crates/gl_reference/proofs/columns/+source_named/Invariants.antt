use Rattle.std.proofs.Common.{length}
use Rattle.gl_reference.proofs.columns.+source_named.Given as goal

abbrev pub decreases-source_named : goal.decreases-source_named
decreases-source_named l = length l.sources.now
