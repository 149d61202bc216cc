use Rattle.std.proofs.Common.{◌≡◌, ◌≤◌, ◌+◌, ◌*◌, ◌++◌, take}
use Rattle.gl_schema.specs.Seen.{doubled}
use Rattle.gl_tuples.proofs.line.put_doubled.Given as goal

-- what was read is written, each double quote twice
abbrev pub invariant-loop-byte : goal.invariant-loop-byte
invariant-loop-byte l = record {
  room : l.end ≤ l.at + 2 * l.byte-index;
  written : take l.end l.into ≡ take l.at l.fn.into ++ doubled (take l.byte-index l.bytes);
}
