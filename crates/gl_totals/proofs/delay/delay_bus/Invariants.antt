use Rattle.gl_totals.specs.Delays.{IsBusBehind}
use Rattle.gl_totals.proofs.delay.delay_bus.Given as goal

abbrev pub invariant-loop-cycle : goal.invariant-loop-cycle
invariant-loop-cycle l = IsBusBehind l.fn.net l.net l._cycle l.fn.bus l.out
