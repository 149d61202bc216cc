use Rattle.gl_wire_registers.specs.Lines.{AddsLines, pointed}
use Rattle.gl_wire_registers.proofs.lines.decode.Given as goal

abbrev pub invariant-loop-copy : goal.invariant-loop-copy
invariant-loop-copy l = AddsLines l.initial.net l.net l.copy 3 l.all (pointed l.line l.pointer)
