use Rattle.std.proofs.Common.{length}
use Rattle.gl_top_forms.proofs.help.+put_lines.Given as goal

abbrev pub decreases-put_lines : goal.decreases-put_lines
decreases-put_lines l = length l.commands.now
