use Rattle.gl_asof.proofs.FrameLemmas.{frames_are_as_of}
use Rattle.gl_asof.proofs.laws.frames_are_as_of.Goals as goal

pub returns : goal.returns
returns g c = frames_are_as_of
