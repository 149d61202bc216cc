use Rattle.gl_wire_lanes.proofs.SingleLemmas.{register_is_kept}
use Rattle.gl_wire_lanes.proofs.laws.register_is_kept.Goals as goal

pub returns : goal.returns
returns c = register_is_kept
