use Rattle.std.proofs.Common.{◌≡◌, drop}
use Rattle.gl_verilog.specs.Tokens.{number_from}
use Rattle.gl_verilog_tokens.proofs.digits.small_number.Given as goal

abbrev pub invariant-loop-b : goal.invariant-loop-b
invariant-loop-b l = number_from 10 l.number (drop l.b-index l.digits) ≡ number_from 10 0 l.digits
