use Rattle.gl_frames_asked.proofs.RowLemmas.{nodes_make}
use Rattle.gl_frames_asked.proofs.laws.nodes_make_same.Goals as goal

pub returns : goal.returns
returns c = nodes_make
