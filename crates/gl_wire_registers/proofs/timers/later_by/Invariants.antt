use Rattle.gl_wire_registers.specs.Timers.{IsLaterBy}
use Rattle.gl_wire_registers.proofs.timers.later_by.Given as goal

abbrev pub invariant-loop-cycle : goal.invariant-loop-cycle
invariant-loop-cycle l = IsLaterBy l.initial.net l.net l._cycle l.fn.line l.last
