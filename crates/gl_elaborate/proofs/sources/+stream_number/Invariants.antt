use Rattle.std.proofs.Common.{length}
use Rattle.gl_elaborate.proofs.sources.+stream_number.Given as goal

abbrev pub decreases-stream_number : goal.decreases-stream_number
decreases-stream_number l = length l.streams.now
