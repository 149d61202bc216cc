use Rattle.gl_wire_registers.specs.Lines.{AddsLines, with_line}
use Rattle.gl_wire_registers.proofs.lines.with_all_of.Given as goal

abbrev pub invariant-loop-left : goal.invariant-loop-left
invariant-loop-left l = AddsLines l.initial.net l.net l.left-index 1 l.all (with_line l.op l.lefts l.right)
