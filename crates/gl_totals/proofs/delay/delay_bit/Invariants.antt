use Rattle.gl_totals.specs.Delays.{IsBitBehind}
use Rattle.gl_totals.proofs.delay.delay_bit.Given as goal

abbrev pub invariant-loop-cycle : goal.invariant-loop-cycle
invariant-loop-cycle l = IsBitBehind l.fn.net l.net l._cycle l.fn.line l.out
