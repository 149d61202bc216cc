use Rattle.gl_wire_lanes.proofs.SingleLemmas.{one_is_single}
use Rattle.gl_wire_lanes.proofs.laws.one_is_single.Goals as goal

pub returns : goal.returns
returns c = one_is_single
