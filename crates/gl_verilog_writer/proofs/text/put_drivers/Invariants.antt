use Rattle.std.proofs.Common.{◌≡◌, ◌++◌, drop}
use Rattle.gl_verilog_writer.specs.Printed.{lines_text}
use Rattle.gl_verilog_writer.specs.Design.{numbered, driven_line}
use Rattle.gl_verilog_writer.specs.Texts.{scheme_in}
use Rattle.gl_verilog_writer.proofs.text.put_drivers.Given as goal

abbrev pub invariant-loop-number : goal.invariant-loop-number
invariant-loop-number l = l.out.items ++ lines_text (numbered (driven_line (scheme_in l.by) l.ports) l.number (drop l.number l.nodes)) ≡ l.initial.out.items ++ lines_text (numbered (driven_line (scheme_in l.by) l.ports) 0 l.nodes)
