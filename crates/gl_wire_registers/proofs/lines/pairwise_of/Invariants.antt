use Rattle.gl_wire_registers.specs.Lines.{AddsLines, pairs}
use Rattle.gl_wire_registers.proofs.lines.pairwise_of.Given as goal

abbrev pub invariant-loop-i : goal.invariant-loop-i
invariant-loop-i l = AddsLines l.initial.net l.net l.i 1 l.all (pairs l.op l.lefts l.rights)
