use Rattle.gl_frames_stages.proofs.CountLemmas.{frames_counted}
use Rattle.gl_frames_stages.proofs.laws.frames_are_counted.Goals as goal

pub returns : goal.returns
returns c = frames_counted
