use Rattle.std.proofs.Common.{length}
use Rattle.gl_elaborate.proofs.leveling.+are_flat.Given as goal

abbrev pub decreases-are_flat : goal.decreases-are_flat
decreases-are_flat l = length l.trees.now
