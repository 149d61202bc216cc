use Rattle.std.proofs.Common.{length}
use Rattle.gl_many.proofs.rooting.+push_roots.Given as goal

abbrev pub decreases-push_roots : goal.decreases-push_roots
decreases-push_roots l = length l.statements.now
