use Rattle.std.proofs.Common.{length}
use Rattle.gl_query_check.proofs.rules.+are_bytes.Given as goal

abbrev pub decreases-are_bytes : goal.decreases-are_bytes
decreases-are_bytes l = length l.text.now
