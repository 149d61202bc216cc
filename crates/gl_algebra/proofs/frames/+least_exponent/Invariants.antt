use Rattle.gl_algebra.proofs.frames.+least_exponent.Given as goal

abbrev pub decreases-least_exponent : goal.decreases-least_exponent
decreases-least_exponent l = l.more
