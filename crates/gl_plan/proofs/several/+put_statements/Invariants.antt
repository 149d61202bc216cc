use Rattle.std.proofs.Common.{length}
use Rattle.gl_plan.proofs.several.+put_statements.Given as goal

abbrev pub decreases-put_statements : goal.decreases-put_statements
decreases-put_statements l = length l.statements.now
