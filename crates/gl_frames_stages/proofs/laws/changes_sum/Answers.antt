use Rattle.gl_frames_stages.proofs.ChangeLemmas.{changes_sum}
use Rattle.gl_frames_stages.proofs.laws.changes_sum.Goals as goal

pub returns : goal.returns
returns c = changes_sum
