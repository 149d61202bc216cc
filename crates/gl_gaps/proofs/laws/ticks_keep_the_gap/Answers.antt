use Rattle.gl_gaps.proofs.EvenGaps.{even_is}
use Rattle.gl_gaps.proofs.laws.ticks_keep_the_gap.Goals as goal

pub returns : goal.returns
returns c = even_is
