use Rattle.std.proofs.Common.{◌≡◌, ◌^◌, min, take}
use Rattle.gl_tuples.specs.Values.{number_in}
use Rattle.gl_tuples.proofs.value.number_in.Given as goal

-- the number of the digits so far
abbrev pub invariant-loop-digit : goal.invariant-loop-digit
invariant-loop-digit l = l.number ≡ min (number_in (take l.digit-index l.digits)) (2 ^ 64)
