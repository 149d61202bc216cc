use Rattle.std.proofs.Common.{suc, arith, ◌∙◌}
use Rattle.gl_net.proofs.Determined.{keeps_then}
use Rattle.gl_wire_registers.proofs.CounterLemmas.{pointer_step}
use Rattle.gl_wire_registers.proofs.counters.next_pointer.Goals as goal

pub returns : goal.returns
returns c =
    let more = c.in_ok-more.ensures in
    let ticked = c.in_ok-ticked.ensures in
    let kept = c.in_ok-next.ensures in
    record {
      keeps = keeps_then c.args.net.now c.with_one.new.net _ more.keeps (keeps_then c.with_one.new.net c.number_at.new.net c.choose.new.self ticked.keeps kept.keeps);
      cost = record {
        nodes = omega (arith, more.cost.nodes, ticked.cost.nodes, kept.size);
        registers = omega (arith, more.cost.registers, ticked.cost.registers, kept.register_bits);
        memories = omega (arith, more.cost.memories, ticked.cost.memories, kept.memory_bits);
      };
      bus = kept.bus;
      width = kept.width ∙ ticked.width ∙ more.width;
      next = λ run r t below.
          let before = kept.keeps.runs run r in
          pointer_step run c.args.tick c.args.pointer.width c.args.last (run.at (suc t) c.args.pointer.node)
          (run.at (suc t) c.in_ok-more.more.node) (run.at (suc t) c.in_ok-ticked.ticked.node) (run.at (suc t) c.in_ok-next.next.node) t
          below c.requires.last (more.value run (ticked.keeps.runs run before) (suc t)) (ticked.value run before t) (kept.value run r (suc t));
    }
