use Rattle.std.proofs.Common.{length}
use Rattle.gl_top_forms.proofs.reading.+first_of.Given as goal

abbrev pub decreases-first_of : goal.decreases-first_of
decreases-first_of l = length l.commands.now
