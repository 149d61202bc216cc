use Rattle.std.proofs.Common.{◌≡◌, ◌++◌, map, drop}
use Rattle.gl_verilog.specs.View.{declaration_of}
use Rattle.gl_testbench.specs.Benches.{columns_from}
use Rattle.gl_testbench.proofs.pins.columns_of.Given as goal

abbrev pub invariant-loop-number : goal.invariant-loop-number
invariant-loop-number l = l.columns.items ++ columns_from l.number (map declaration_of (drop l.number l.ports)) ≡ columns_from 0 (map declaration_of l.ports)
