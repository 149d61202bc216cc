use Rattle.std.proofs.Common.{length}
use Rattle.gl_query_texts.proofs.accepting.+is_taken.Given as goal

abbrev pub decreases-is_taken : goal.decreases-is_taken
decreases-is_taken l = length l.before.now
