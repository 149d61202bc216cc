use Rattle.std.proofs.Common.{◌≡◌, map, take}
use Rattle.gl_bits.specs.Words.{bits_of, widths_of}
use Rattle.gl_vcd.specs.Showings.{value_in}
use Rattle.gl_vcd.proofs.columns.fill.Given as goal

-- the values of the columns so far stand in the row
abbrev pub invariant-loop-place : goal.invariant-loop-place
invariant-loop-place l = record {
  widths : widths_of l.row ≡ widths_of l.initial.row;
  bits : take l.place (bits_of l.row) ≡ map (value_in l.values) (take l.place l.numbers);
}
