use Rattle.std.proofs.Common.{◌≡◌, ◌+◌, ◌^◌, ◌<◌, ◌≤◌, false, drop, length}
use Rattle.std.specs.Fmt.{digits_onto}
use Rattle.gl_vcd.specs.Written.{binary}
use Rattle.gl_vcd.proofs.writing.binary_into.Given as goal

-- the digits of what is left, in front of those that stand
abbrev pub invariant-loop-rest : goal.invariant-loop-rest
invariant-loop-rest l = record {
  room : l.at ≤ 127;
  long : length l.into ≡ 128;
  small : l.rest < 2 ^ (l.at + 1);
  written : digits_onto (l.at + 1) 2 false l.rest (drop (l.at + 1) l.into) ≡ binary l.value;
}

abbrev pub decreases-loop-rest : goal.decreases-loop-rest
decreases-loop-rest l = l.at
