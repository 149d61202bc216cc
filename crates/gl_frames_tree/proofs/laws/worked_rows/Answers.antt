use Rattle.gl_frames_tree.proofs.WorkedRows.{worked}
use Rattle.gl_frames_tree.proofs.laws.worked_rows.Goals as goal

pub returns : goal.returns
returns c = worked
