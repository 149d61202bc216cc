use Rattle.std.proofs.Common.{◌<◌, ◌≤◌, ◌^◌, take}
use Rattle.gl_verilog.specs.Tokens.{number_from}
use Rattle.gl_verilog_elaborator.proofs.numbers.are_few.Given as goal

abbrev pub invariant-loop-b : goal.invariant-loop-b
invariant-loop-b l = record {
  small : number_from l.radix 0 (take l.b-index l.digits) < 2 ^ l.bits;
  within : l.bits ≤ l.size;
}
