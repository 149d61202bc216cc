use Rattle.std.proofs.Common.{◌≡◌, drop}
use Rattle.gl_testbench.specs.Carried.{stream_pin}
use Rattle.gl_testbench.proofs.pins.stream_pin_of.Given as goal

abbrev pub invariant-loop-at : goal.invariant-loop-at
invariant-loop-at l = stream_pin l.name l.at (drop l.at l.streams) ≡ stream_pin l.name 0 l.streams
