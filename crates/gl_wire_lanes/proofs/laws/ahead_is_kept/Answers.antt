use Rattle.gl_wire_lanes.proofs.FoldLemmas.{ahead_is_kept}
use Rattle.gl_wire_lanes.proofs.laws.ahead_is_kept.Goals as goal

pub returns : goal.returns
returns c = ahead_is_kept
