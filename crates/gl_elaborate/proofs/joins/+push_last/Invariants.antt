use Rattle.gl_elaborate.proofs.joins.+push_last.Given as goal

abbrev pub decreases-push_last : goal.decreases-push_last
decreases-push_last l = l.count
