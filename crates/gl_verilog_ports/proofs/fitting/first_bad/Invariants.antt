use Rattle.std.proofs.Common.{◌≡◌, ◌≤◌, drop, map}
use Rattle.gl_verilog.specs.View.{declaration_of}
use Rattle.gl_verilog_ports.specs.Fit.{first_bad}
use Rattle.gl_verilog_ports.proofs.fitting.first_bad.Given as goal

abbrev pub invariant-loop-number : goal.invariant-loop-number
invariant-loop-number l = (first_bad l.schema l.number l.columns (map declaration_of (drop l.number l.ports)) ≡ first_bad l.schema 0 0 (map declaration_of l.ports)) × (l.columns ≤ l.number)
