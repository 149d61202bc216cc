use Rattle.gl_algebra.proofs.frames.+words_of_doublings.Given as goal

abbrev pub decreases-words_of_doublings : goal.decreases-words_of_doublings
decreases-words_of_doublings l = l.more
