use Rattle.std.proofs.Common.{◌≡◌, drop}
use Rattle.gl_vcd.specs.Reading.{binary_in}
use Rattle.gl_vcd.proofs.Bits.{bits_from}
use Rattle.gl_vcd.proofs.changing.binary_in.Given as goal

-- the digits that are left, behind the number so far, spell the whole
abbrev pub invariant-loop-digit : goal.invariant-loop-digit
invariant-loop-digit l = bits_from l.number (drop l.digit-index l.digits) ≡ binary_in l.digits
