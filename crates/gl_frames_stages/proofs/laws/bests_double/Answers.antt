use Rattle.gl_frames_stages.proofs.DoubleLemmas.{bests_double}
use Rattle.gl_frames_stages.proofs.laws.bests_double.Goals as goal

pub returns : goal.returns
returns c = bests_double
