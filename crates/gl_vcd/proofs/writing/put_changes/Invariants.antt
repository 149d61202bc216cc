use Rattle.std.proofs.Common.{drop, option_map}
use Rattle.gl_vcd.specs.Written.{changes}
use Rattle.gl_vcd.proofs.OnWay.{IsOnWay}
use Rattle.gl_vcd.proofs.writing.put_changes.Given as goal

-- the changes of the ports so far are written
abbrev pub invariant-loop-number : goal.invariant-loop-number
invariant-loop-number g l =
    IsOnWay (g.K.Sink.state l.initial.out) (g.K.Sink.state l.out)
    (changes (option_map (λ r. r.now) l.before) l.number (drop l.number l.row))
    (changes (option_map (λ r. r.now) l.before) 0 l.row)
