use Rattle.gl_wire.proofs.PaceLemmas.{ends_pace}
use Rattle.gl_wire.proofs.laws.totals_come_with_ends.Goals as goal

pub returns : goal.returns
returns c = ends_pace
