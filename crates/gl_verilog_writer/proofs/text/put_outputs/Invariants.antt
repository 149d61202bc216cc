use Rattle.std.proofs.Common.{◌≡◌, ◌++◌, drop}
use Rattle.gl_verilog_writer.specs.Printed.{lines_text}
use Rattle.gl_verilog_writer.specs.Design.{numbered, shown_line}
use Rattle.gl_verilog_writer.specs.Texts.{scheme_in}
use Rattle.gl_verilog_writer.proofs.text.put_outputs.Given as goal

abbrev pub invariant-loop-port : goal.invariant-loop-port
invariant-loop-port l = l.out.items ++ lines_text (numbered (shown_line (scheme_in l.by)) l.port-index (drop l.port-index l.ports)) ≡ l.initial.out.items ++ lines_text (numbered (shown_line (scheme_in l.by)) 0 l.ports)
