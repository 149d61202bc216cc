use Rattle.gl_elaborate.proofs.joins.+push_columns.Given as goal

abbrev pub decreases-push_columns : goal.decreases-push_columns
decreases-push_columns l = l.count
