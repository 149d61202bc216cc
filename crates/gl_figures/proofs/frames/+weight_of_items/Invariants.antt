use Rattle.std.proofs.Common.{length}
use Rattle.gl_figures.proofs.frames.+weight_of_items.Given as goal

abbrev pub decreases-weight_of_items : goal.decreases-weight_of_items
decreases-weight_of_items l = length l.items.now
