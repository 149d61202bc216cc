use Rattle.std.proofs.Common.{length}
use Rattle.gl_elaborate.proofs.leveling.+reduce_all.Given as goal

abbrev pub decreases-reduce_all : goal.decreases-reduce_all
decreases-reduce_all l = length l.trees.now
