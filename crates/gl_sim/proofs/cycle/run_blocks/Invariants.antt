use Rattle.std.proofs.Common.{◌≡◌, ◌+◌, ◌≤◌, drop, vec_len, vec_capacity}
use Rattle.gl_verilog.specs.View.{chained}
use Rattle.gl_verilog.specs.Evaluate.{nets_of, memories_of}
use Rattle.gl_sim.specs.Updates.{writes_in}
use Rattle.gl_sim.proofs.Waiting.{IsUnderWay}
use Rattle.gl_sim.proofs.cycle.run_blocks.Given as goal

abbrev pub invariant-loop-block : goal.invariant-loop-block
invariant-loop-block l = record {
  way : IsUnderWay l.values l.banks (nets_of l.values) (memories_of l.banks) (chained l.blocks) (chained (drop l.block-index l.blocks)) l.initial.next.items l.next.items l.initial.waiting.items l.waiting.items;
  capacity : vec_capacity l.waiting ≡ vec_capacity l.initial.waiting;
  room : vec_len l.waiting + writes_in (chained (drop l.block-index l.blocks)) ≤ vec_len l.initial.waiting + writes_in (chained l.blocks);
}
