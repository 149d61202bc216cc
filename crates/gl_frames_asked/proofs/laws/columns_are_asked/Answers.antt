use Rattle.gl_frames_asked.proofs.AskedLemmas.{columns_asked}
use Rattle.gl_frames_asked.proofs.laws.columns_are_asked.Goals as goal

pub returns : goal.returns
returns c = columns_asked
