use Rattle.std.proofs.Common.{refl}
use Rattle.gl_groups.proofs.lane.tell_lane.Goals as goal

pub returns : goal.returns
returns c = record { told = c.in_ok-told.told; adds = c.in_ok-told.ensures; lines = refl }
