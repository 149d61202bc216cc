use Rattle.std.proofs.Common.{◌≡◌, ◌+◌, length}
use Rattle.gl_vcd.specs.Written.{declarations}
use Rattle.gl_vcd.proofs.Headers.{ports_left}
use Rattle.gl_vcd.proofs.OnWay.{IsOnWay}
use Rattle.gl_vcd.proofs.writing.put_declarations.Given as goal

-- the ports so far are declared
abbrev pub invariant-loop-port : goal.invariant-loop-port
invariant-loop-port g l = record {
  count : l.number + length (ports_left l.port-index l.ports) ≡ length (ports_left 0 l.ports);
  way : IsOnWay (g.K.Sink.state l.initial.out) (g.K.Sink.state l.out) (declarations l.number (ports_left l.port-index l.ports)) (declarations 0 (ports_left 0 l.ports));
}
