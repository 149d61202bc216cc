use Rattle.gl_wire.specs.Stages.{IsPad}
use Rattle.gl_wire.proofs.stages.pad.Given as goal

abbrev pub invariant-loop-cycle : goal.invariant-loop-cycle
invariant-loop-cycle l = IsPad l.initial.net l.net l._cycle l.wire l.padded
