use Rattle.std.proofs.Common.{◌≡◌, take}
use Rattle.gl_query_check.proofs.checking.copy_of_streams.Given as goal

abbrev pub invariant-loop-stream : goal.invariant-loop-stream
invariant-loop-stream l = l.out ≡ take l.stream-index l.streams
