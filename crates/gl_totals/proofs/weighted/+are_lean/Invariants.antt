use Rattle.std.proofs.Common.{length}
use Rattle.gl_totals.proofs.weighted.+are_lean.Given as goal

abbrev pub decreases-are_lean : goal.decreases-are_lean
decreases-are_lean l = length l.weights.now
