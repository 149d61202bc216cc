use Rattle.std.proofs.Common.{length}
use Rattle.gl_figures.proofs.marks.+mark_roots.Given as goal

abbrev pub decreases-mark_roots : goal.decreases-mark_roots
decreases-mark_roots l = length l.roots.now
