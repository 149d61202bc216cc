use Rattle.std.proofs.Common.{◌≡◌, ◌++◌, drop, map}
use Rattle.gl_verilog_writer.specs.Printed.{more_ports_text}
use Rattle.gl_verilog_writer.specs.Design.{written_port}
use Rattle.gl_verilog_writer.proofs.text.put_ports.Given as goal

abbrev pub invariant-loop-port : goal.invariant-loop-port
invariant-loop-port l = l.out.items ++ more_ports_text (map (written_port l.nodes) (drop l.port-index l.ports)) ≡ l.initial.out.items ++ more_ports_text (map (written_port l.nodes) l.ports)
