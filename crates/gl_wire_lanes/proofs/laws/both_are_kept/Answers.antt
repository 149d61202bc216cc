use Rattle.gl_wire_lanes.proofs.PairLemmas.{both_kept}
use Rattle.gl_wire_lanes.proofs.laws.both_are_kept.Goals as goal

pub returns : goal.returns
returns c = both_kept
