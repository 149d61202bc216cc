use Rattle.gl_algebra.proofs.FigureLemmas.{figures_are_sound}
use Rattle.gl_algebra.proofs.laws.figures_are_sound.Goals as goal

pub returns : goal.returns
returns c = figures_are_sound
