use Rattle.gl_wire_lanes.proofs.FoldLemmas.{events_are_fresh}
use Rattle.gl_wire_lanes.proofs.laws.events_are_fresh.Goals as goal

pub returns : goal.returns
returns c = events_are_fresh
