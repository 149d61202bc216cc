use Rattle.gl_frames_tree.proofs.GrowLemmas.{children_numbered}
use Rattle.gl_frames_tree.proofs.laws.levels_number.Goals as goal

pub returns : goal.returns
returns c = children_numbered
