use Rattle.std.proofs.Common.{◌≡◌, map, take, length}
use Rattle.gl_testbench.specs.Carried.{at_reset}
use Rattle.gl_testbench.proofs.bench.set_reset.Given as goal

abbrev pub invariant-loop-at : goal.invariant-loop-at
invariant-loop-at l = (length l.values ≡ length l.pins) × (take l.at l.values ≡ map (at_reset l.sets) (take l.at l.pins))
