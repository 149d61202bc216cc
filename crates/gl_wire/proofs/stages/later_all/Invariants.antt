use Rattle.std.proofs.Common.{take}
use Rattle.gl_wire.specs.Stages.{AreLater}
use Rattle.gl_wire.proofs.stages.later_all.Given as goal

abbrev pub invariant-loop-bus : goal.invariant-loop-bus
invariant-loop-bus l = AreLater l.initial.net l.net (take l.bus-index l.columns) l.all
