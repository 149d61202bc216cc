use Rattle.gl_figures.proofs.ticks.+root_ticks.Given as goal

abbrev pub decreases-root_ticks : goal.decreases-root_ticks
decreases-root_ticks l = l.root
