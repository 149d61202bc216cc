use Rattle.std.proofs.Common.{length}
use Rattle.gl_query_check.proofs.rules.+has_stream.Given as goal

abbrev pub decreases-has_stream : goal.decreases-has_stream
decreases-has_stream l = length l.streams.now
