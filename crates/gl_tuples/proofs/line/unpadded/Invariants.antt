use Rattle.std.proofs.Common.{◌≡◌, ◌≤◌, length, take}
use Rattle.gl_schema.specs.Seen.{unpadded}
use Rattle.gl_tuples.proofs.line.unpadded.Given as goal

-- only padding was taken off
abbrev pub invariant-loop-len : goal.invariant-loop-len
invariant-loop-len l = record {
  short : l.len ≤ length l.bytes;
  same : unpadded (take l.len l.bytes) ≡ unpadded l.bytes;
}

abbrev pub decreases-loop-len : goal.decreases-loop-len
decreases-loop-len l = l.len
