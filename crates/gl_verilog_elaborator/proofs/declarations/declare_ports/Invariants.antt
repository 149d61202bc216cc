use Rattle.std.proofs.Common.{◌≡◌, drop, map}
use Rattle.gl_verilog_tokens.specs.View.{port_of}
use Rattle.gl_verilog_elaborator.specs.Elaborated.{declared_ports}
use Rattle.gl_verilog_elaborator.specs.View.{scope_of}
use Rattle.gl_verilog_elaborator.proofs.declarations.declare_ports.Given as goal

abbrev pub invariant-loop-port : goal.invariant-loop-port
invariant-loop-port l = declared_ports (scope_of l.scope) l.at (map port_of (drop l.port-index l.ports)) ≡ declared_ports (scope_of l.initial.scope) l.k (map port_of l.ports)
