use Rattle.std.proofs.Common.{suc, arith, ◌∙◌}
use Rattle.gl_net.proofs.Determined.{keeps_then}
use Rattle.gl_wire.proofs.GateLemmas.{choose_line}
use Rattle.gl_totals.proofs.SlotLemmas.{past_is}
use Rattle.gl_frames_slots.proofs.count.put_passing.Goals as goal

pub returns : goal.returns
returns c =
    let rows = c.args.rows in
    let write = c.in_ok-write.ensures in
    let meets = c.in_ok-meets.ensures in
    let passes = c.in_ok-passes.ensures in
    let read = c.in_ok-read.ensures in
    let out = c.in_ok-out.ensures in
    record {
      keeps = keeps_then c.args.net.now c.either.new.net c.choose.new.self write.keeps (keeps_then _ c.same.new.net _ meets.keeps
          (keeps_then _ c.both.new.net _ passes.keeps (keeps_then _ c.put_memory.new.net _ read.keeps out.keeps)));
      cost = record {
        nodes = omega (arith, write.cost.nodes, meets.cost.nodes, passes.cost.nodes, read.cost.nodes, out.size);
        registers = omega (arith, write.cost.registers, meets.cost.registers, passes.cost.registers, read.cost.registers, out.register_bits);
        memories = omega (arith, write.cost.memories, meets.cost.memories, passes.cost.memories, read.cost.memories, out.memory_bits);
      };
      bus = out.bus;
      same_width = out.width;
      past = λ run r.
          let at_read = out.keeps.runs run r in
          let at_passes = read.keeps.runs run at_read in
          let at_meets = passes.keeps.runs run at_passes in
          let at_write = meets.keeps.runs run at_meets in
          past_is run rows.valid rows.first rows.slot rows.next c.args.now c.in_ok-write.write c.in_ok-meets.meets c.in_ok-passes.passes
          c.in_ok-read.read c.in_ok-out.out (read.held run at_read) (write.line run at_write) (meets.line run at_meets) (passes.line run at_passes)
          (λ t. out.value run r (suc t) ∙ choose_line run c.in_ok-passes.passes (run.at (suc t) c.args.now.node) (run.at (suc t) c.in_ok-read.read.node) t);
    }
