use Rattle.std.proofs.Common.{◌≤◌, ◌-◌, length, take}
use Rattle.gl_outside.specs.States.{Took}
use Rattle.gl_outside.proofs.writing.write_all_of.Given as goal

abbrev pub invariant-loop-at : goal.invariant-loop-at
invariant-loop-at g l = record {
  within : l.at ≤ length l.bytes;
  taken : Took (g.K.Sink.state l.initial.sink) (g.K.Sink.state l.sink) (take l.at l.bytes);
}

abbrev pub decreases-loop-at : goal.decreases-loop-at
decreases-loop-at g l = length l.bytes - l.at
