use Rattle.std.proofs.Common.{ℕ, ◌%◌, ◌^◌, ◌+◌, suc, ap, arith, ◌∙◌}
use Rattle.std.specs.Prelude.{nat_eq}
use Rattle.gl_net.proofs.Determined.{keeps_then}
use Rattle.gl_queue.proofs.PartLemmas.{passed_is}
use Rattle.gl_queue.proofs.ring.put_passed.Goals as goal

pub returns : goal.returns
returns c = rw c.note_bit.ensures (
    let meets = c.in_ok-meets.ensures in
    let full = c.in_ok-full.ensures in
    let comes = c.in_ok-comes.ensures in
    let line = c.in_ok-line.ensures in
    let at = c.args.at in
    record {
      keeps = keeps_then c.args.net.now c.both.new.net _
          (keeps_then c.args.net.now c.put_meeting.new.net c.both.new.net meets.keeps full.keeps) (keeps_then c.both.new.net c.both-2.new.net _ comes.keeps line.keeps);
      cost = record {
        nodes = omega (arith, meets.cost.nodes, full.cost.nodes, comes.cost.nodes, line.cost.nodes);
        registers = omega (arith, meets.cost.registers, full.cost.registers, comes.cost.registers, line.cost.registers);
        memories = omega (arith, meets.cost.memories, full.cost.memories, comes.cost.memories, line.cost.memories);
      };
      bit = line.bit;
      passed = λ run r.
          let at_comes = line.keeps.runs run r in
          let at_full = comes.keeps.runs run at_comes in
          let at_meets = full.keeps.runs run at_full in
          passed_is run c.args.bits c.args.depth c.args.push at.some at.pop c.in_ok-meets.meets c.in_ok-full.full c.in_ok-comes.comes c.in_ok-line.line at.head at.tail
          (λ t. meets.line run at_meets t ∙ ap (λ (n : ℕ). nat_eq ((run.at (suc t) at.head.node + n) % 2 ^ c.args.bits) (run.at (suc t) at.tail.node)) c.modulo.ensures)
          (full.line run at_full)
          (comes.line run at_comes)
          (line.line run r);
    })
