use Rattle.std.proofs.Common.{length}
use Rattle.gl_elaborate.proofs.leveling.+gather_all.Given as goal

abbrev pub decreases-gather_all : goal.decreases-gather_all
decreases-gather_all l = length l.trees.now
