use Rattle.std.proofs.Common.{length}
use Rattle.gl_figures.proofs.frames.+words_of_items.Given as goal

abbrev pub decreases-words_of_items : goal.decreases-words_of_items
decreases-words_of_items l = length l.items.now
