use Rattle.gl_wire.proofs.PaceLemmas.{follows_pace}
use Rattle.gl_wire.proofs.laws.followers_keep_pace.Goals as goal

pub returns : goal.returns
returns c = follows_pace
