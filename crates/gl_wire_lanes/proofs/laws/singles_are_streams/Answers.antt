use Rattle.gl_wire_lanes.proofs.ShareLemmas.{singles_are_streams}
use Rattle.gl_wire_lanes.proofs.laws.singles_are_streams.Goals as goal

pub returns : goal.returns
returns c = singles_are_streams
