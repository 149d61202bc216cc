use Rattle.gl_wire_lanes.proofs.BehindLemmas.{begins_behind}
use Rattle.gl_wire_lanes.proofs.laws.begins_behind.Goals as goal

pub returns : goal.returns
returns c = begins_behind
