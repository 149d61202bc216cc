use Rattle.gl_algebra.proofs.FigureLemmas.{rows_keep_sound}
use Rattle.gl_algebra.proofs.SoundLemmas.{spacer_sound}
use Rattle.gl_algebra.proofs.laws.rows_keep_sound.Goals as goal

pub returns-clause-rows : goal.returns-clause-rows
returns-clause-rows c = rows_keep_sound

pub returns-clause-spacers : goal.returns-clause-spacers
returns-clause-spacers c = spacer_sound
