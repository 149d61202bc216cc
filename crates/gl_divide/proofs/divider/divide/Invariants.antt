use Rattle.gl_divide.specs.Divider.{IsBehindDigits}
use Rattle.gl_divide.proofs.divider.divide.Given as goal

abbrev pub invariant-loop-digit : goal.invariant-loop-digit
invariant-loop-digit l = IsBehindDigits l.fn.net l.net l._digit l.fn.top l.fn.bottom l.fn.go l.stage
