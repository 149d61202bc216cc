use Rattle.std.proofs.Common.{◌≡◌, drop}
use Rattle.gl_verilog.specs.Tokens.{number_from}
use Rattle.gl_verilog_elaborator.specs.Numbers.{value_of}
use Rattle.gl_verilog_elaborator.proofs.numbers.is_below.Given as goal

abbrev pub invariant-loop-b : goal.invariant-loop-b
invariant-loop-b l = number_from l.radix (value_of l.limbs.items) (drop l.b-index l.digits) ≡ number_from l.radix 0 l.digits
