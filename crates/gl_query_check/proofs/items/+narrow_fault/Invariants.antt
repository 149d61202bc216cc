use Rattle.std.proofs.Common.{length}
use Rattle.gl_query_check.proofs.items.+narrow_fault.Given as goal

abbrev pub decreases-narrow_fault : goal.decreases-narrow_fault
decreases-narrow_fault l = length l.weights.now
