use Rattle.std.proofs.Common.{◌≡◌, ◌++◌, map, drop}
use Rattle.gl_verilog.specs.View.{declaration_of}
use Rattle.gl_runner.proofs.Decimals.{decimals_of}
use Rattle.gl_runner.proofs.tracing.decimal_kinds.Given as goal

abbrev pub invariant-loop-port : goal.invariant-loop-port
invariant-loop-port l = l.kinds.items ++ decimals_of (map declaration_of (drop l.port-index l.port-items)) ≡ decimals_of (map declaration_of l.port-items)
