use Rattle.gl_wire_lanes.proofs.ShareLemmas.{shares_are_streams}
use Rattle.gl_wire_lanes.proofs.laws.shares_are_streams.Goals as goal

pub returns : goal.returns
returns c = shares_are_streams
