use Rattle.std.proofs.Common.{suc, arith, ◌∙◌}
use Rattle.gl_net.proofs.Determined.{keeps_then}
use Rattle.gl_net.proofs.Values.{bus_fits}
use Rattle.gl_wire_registers.proofs.CounterLemmas.{count_next}
use Rattle.gl_wire_registers.proofs.counters.next_count.Goals as goal

pub returns : goal.returns
returns c =
    let less = c.in_ok-less.ensures in
    let ticked = c.in_ok-ticked.ensures in
    let kept = c.in_ok-kept.ensures in
    record {
      keeps = keeps_then c.args.net.now c.with_one.new.net _ less.keeps (keeps_then c.with_one.new.net c.number_at.new.net c.choose.new.self ticked.keeps kept.keeps);
      cost = record {
        nodes = omega (arith, less.cost.nodes, ticked.cost.nodes, kept.size);
        registers = omega (arith, less.cost.registers, ticked.cost.registers, kept.register_bits);
        memories = omega (arith, less.cost.memories, ticked.cost.memories, kept.memory_bits);
      };
      bus = kept.bus;
      width = kept.width ∙ ticked.width ∙ less.width;
      next = λ run r t.
          let before = kept.keeps.runs run r in
          let first = ticked.keeps.runs run before in
          count_next run c.args.tick c.args.counter.width c.args.again (run.at (suc t) c.args.counter.node)
          (run.at (suc t) c.in_ok-less.less.node) (run.at (suc t) c.in_ok-ticked.ticked.node) (run.at (suc t) c.in_ok-kept.kept.node) t
          (bus_fits c.args.net.now c.args.counter run c.requires.counter (less.keeps.runs run first) (suc t))
          (less.value run first (suc t)) (ticked.value run before t) (kept.value run r (suc t));
    }
