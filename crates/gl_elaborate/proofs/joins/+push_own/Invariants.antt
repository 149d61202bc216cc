use Rattle.gl_elaborate.proofs.joins.+push_own.Given as goal

abbrev pub decreases-push_own : goal.decreases-push_own
decreases-push_own l = l.count
