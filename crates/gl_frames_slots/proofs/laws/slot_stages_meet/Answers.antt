use Rattle.gl_frames_slots.proofs.MeetLemmas.{rows_told, stages_meet}
use Rattle.gl_frames_slots.proofs.laws.slot_stages_meet.Goals as goal

pub returns-clause-told : goal.returns-clause-told
returns-clause-told c = rows_told

pub returns-clause-meet : goal.returns-clause-meet
returns-clause-meet c = stages_meet
