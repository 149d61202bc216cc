use Rattle.gl_frames_stages.proofs.MeetLemmas.{stages_meet}
use Rattle.gl_frames_stages.proofs.laws.stages_meet.Goals as goal

pub returns : goal.returns
returns c = stages_meet
