use Rattle.std.proofs.Common.{◌≡◌, ◌*◌, ◌<◌, ◌^◌, take}
use Rattle.gl_schema.specs.Schemas.{number_of, padded}
use Rattle.gl_schema.proofs.value.text_number.Given as goal

-- the number of the bytes so far
abbrev pub invariant-loop-at : goal.invariant-loop-at
invariant-loop-at l = record {
  value : l.bits ≡ number_of (take l.at (padded l.bytes l.text));
  small : l.bits < 2 ^ (8 * l.at);
}
