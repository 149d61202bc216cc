use Rattle.std.proofs.Common.{◌≡◌, drop, Some}
use Rattle.gl_vcd.specs.Written.{has_new}
use Rattle.gl_vcd.proofs.writing.has_new.Given as goal

-- no port so far is new
abbrev pub invariant-loop-number : goal.invariant-loop-number
invariant-loop-number l = has_new (Some l.before) l.number (drop l.number l.row) ≡ has_new (Some l.before) 0 l.row
