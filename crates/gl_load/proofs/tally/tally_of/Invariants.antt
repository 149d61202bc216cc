use Rattle.std.proofs.Common.{◌≡◌, ◌+◌, ◌≤◌, length}
use Rattle.std.specs.List.{fold}
use Rattle.gl_load.specs.Tallies.{lines_of, no_lines, with_line}
use Rattle.gl_load.specs.Steps.{IsBounded, tally_in}
use Rattle.gl_load.proofs.tally.tally_of.Given as goal

-- what is left gives the rest of the tally; each line so far has a byte at least
abbrev pub invariant-loop-line : goal.invariant-loop-line
invariant-loop-line l = record {
  whole : fold with_line (tally_in l.tally) (lines_of l.rest) ≡ fold with_line no_lines (lines_of l.text);
  bounded : IsBounded l.tally;
  room : l.tally.results + length l.rest ≤ length l.text;
}

abbrev pub decreases-loop-line : goal.decreases-loop-line
decreases-loop-line l = length l.rest
