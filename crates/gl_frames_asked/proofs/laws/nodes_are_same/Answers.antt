use Rattle.gl_frames_asked.proofs.NodeLemmas.{nodes_same}
use Rattle.gl_frames_asked.proofs.SameLemmas.{items_same}
use Rattle.gl_frames_asked.proofs.laws.nodes_are_same.Goals as goal

pub returns-clause-items : goal.returns-clause-items
returns-clause-items c = items_same

pub returns-clause-nodes : goal.returns-clause-nodes
returns-clause-nodes c = nodes_same
