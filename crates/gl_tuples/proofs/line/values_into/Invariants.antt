use Rattle.std.proofs.Common.{◌≡◌, ◌≤◌, ◌+◌, ◌*◌, ◌++◌, take, drop}
use Rattle.gl_bits.specs.Words.{bits_of}
use Rattle.gl_schema.specs.Seen.{values_text}
use Rattle.gl_tuples.proofs.line.values_into.Given as goal

-- what is written and what is left is the whole line
abbrev pub invariant-loop-column : goal.invariant-loop-column
invariant-loop-column l = record {
  room : l.end ≤ l.at + 21 * l.column;
  written : take l.end l.into ++ values_text (drop l.column l.kinds) (drop l.column (bits_of l.row)) ≡ take l.at l.initial.into ++ values_text l.kinds (bits_of l.row);
}
