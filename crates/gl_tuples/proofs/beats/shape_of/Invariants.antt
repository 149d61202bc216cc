use Rattle.std.proofs.Common.{◌≡◌, map, take}
use Rattle.gl_tuples.specs.Growing.{columns_of}
use Rattle.gl_tuples.proofs.beats.shape_of.Given as goal

abbrev pub invariant-loop-stream : goal.invariant-loop-stream
invariant-loop-stream l = l.shape ≡ map columns_of (take l.stream-index l.streams)
