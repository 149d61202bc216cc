use Rattle.gl_wiring.proofs.direct.+is_rowwise.Given as goal

abbrev pub decreases-is_rowwise : goal.decreases-is_rowwise
decreases-is_rowwise l = l.id
