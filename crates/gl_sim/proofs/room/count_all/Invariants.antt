use Rattle.std.proofs.Common.{◌≡◌, ◌+◌, drop}
use Rattle.gl_verilog.specs.View.{chained}
use Rattle.gl_sim.specs.Updates.{writes_in}
use Rattle.gl_sim.proofs.room.count_all.Given as goal

abbrev pub invariant-loop-block : goal.invariant-loop-block
invariant-loop-block l = l.count + writes_in (chained (drop l.block-index l.blocks)) ≡ writes_in (chained l.blocks)
