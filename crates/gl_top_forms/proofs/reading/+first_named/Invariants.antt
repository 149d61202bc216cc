use Rattle.std.proofs.Common.{length}
use Rattle.gl_top_forms.proofs.reading.+first_named.Given as goal

abbrev pub decreases-first_named : goal.decreases-first_named
decreases-first_named l = length l.commands.now
