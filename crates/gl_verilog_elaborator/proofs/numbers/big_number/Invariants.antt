use Rattle.std.proofs.Common.{◌≡◌, ◌<◌, ◌^◌, drop}
use Rattle.gl_verilog.specs.Tokens.{number_from}
use Rattle.gl_verilog_elaborator.proofs.numbers.big_number.Given as goal

abbrev pub invariant-loop-b : goal.invariant-loop-b
invariant-loop-b l = record {
  same : number_from l.radix l.number (drop l.b-index l.digits) ≡ number_from l.radix 0 l.digits;
  small : l.number < 2 ^ 128;
}
