use Rattle.std.proofs.Common.{suc, sym, arith, ◌∙◌}
use Rattle.gl_net.proofs.Determined.{keeps_then}
use Rattle.gl_wire.proofs.GateLemmas.{choose_line}
use Rattle.gl_frames_tree.proofs.TakeNet.{ahead_shows}
use Rattle.gl_frames_tree.proofs.writing.put_ahead.Goals as goal

pub same-requires-clause-widths : goal.same-requires-clause-widths
same-requires-clause-widths c = c.requires.node_width ∙ sym c.requires.next_width

pub choose-requires-clause-widths : goal.choose-requires-clause-widths
choose-requires-clause-widths c = sym c.in_ok-read.ensures.same_width

pub returns : goal.returns
returns c =
    let read = c.in_ok-read.ensures in
    let meets = c.in_ok-meets.ensures in
    let passes = c.in_ok-passes.ensures in
    let ahead = c.in_ok-ahead.ensures in
    let written = c.args.written in
    record {
      keeps = keeps_then c.args.net.now c.put_memory.new.net c.choose.new.self read.keeps (keeps_then c.put_memory.new.net c.same.new.net c.choose.new.self meets.keeps (keeps_then c.same.new.net c.both.new.net c.choose.new.self passes.keeps ahead.keeps));
      cost = record {
        nodes = omega (arith, read.cost.nodes, meets.cost.nodes, passes.cost.nodes, ahead.size);
        registers = omega (arith, read.cost.registers, meets.cost.registers, passes.cost.registers, ahead.register_bits);
        memories = omega (arith, read.cost.memories, meets.cost.memories, passes.cost.memories, ahead.memory_bits);
      };
      bus = ahead.bus;
      same_width = ahead.width;
      law = λ run r.
          let at_passes = ahead.keeps.runs run r in
          let at_meets = passes.keeps.runs run at_passes in
          let at_read = meets.keeps.runs run at_meets in
          ahead_shows run written c.args.node c.args.next c.in_ok-read.read c.in_ok-ahead.ahead c.in_ok-meets.meets c.in_ok-passes.passes
          (read.held run at_read) (meets.line run at_meets) (passes.line run at_passes)
          (λ t. ahead.value run r (suc t) ∙ choose_line run c.in_ok-passes.passes (run.at (suc t) written.word.node) (run.at (suc t) c.in_ok-read.read.node) t);
    }
