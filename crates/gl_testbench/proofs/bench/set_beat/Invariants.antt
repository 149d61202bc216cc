use Rattle.std.proofs.Common.{◌≡◌, map, take, length, option_map}
use Rattle.gl_tuples.specs.Gaps.{plain_beat}
use Rattle.gl_testbench.specs.Carried.{with_beat}
use Rattle.gl_testbench.proofs.bench.set_beat.Given as goal

abbrev pub invariant-loop-at : goal.invariant-loop-at
invariant-loop-at l = (length l.values ≡ length l.pins) × (take l.at l.values ≡ map (with_beat l.sets (option_map (λ b. plain_beat b.now) l.beat)) (take l.at l.pins))
