use Rattle.std.proofs.Common.{arith, ◌∙◌}
use Rattle.std.proofs.lemmas.Grind.{common_steps}
use Rattle.gl_wire_registers.proofs.CounterLemmas.{counter_at}
use Rattle.gl_wire_registers.proofs.counters.count_down.Goals as goal

pub returns : goal.returns
returns c =
    let register = c.in_ok-register.ensures in
    let kept = c.in_ok-kept.ensures in
    let next = c.in_ok-next.ensures in
    let drive = c.in_ok-drive.ensures in
    record {
      keeps = grind (arith, common_steps);
      cost = record {
        nodes = omega (arith, register.size, kept.cost.nodes, next.cost.nodes, drive.size);
        registers = omega (arith, register.register_bits, kept.cost.registers, next.cost.registers, drive.register_bits);
        memories = omega (arith, register.memory_bits, kept.cost.memories, next.cost.memories, drive.memory_bits);
      };
      bus = grind (arith, common_steps);
      width = register.width;
      next = λ run r.
          let before_drive = drive.grows.runs run r in
          let before_next = next.keeps.runs run before_drive in
          let before_kept = kept.keeps.runs run before_next in
          counter_at run c.in_ok-register.register c.in_ok-kept.kept c.in_ok-next.next c.args.clear c.args.tick c.args.counter.start c.args.counter.cleared c.args.counter.again
          (register.start run before_kept ∙ c.word-start.ensures.bits) (drive.value run r) (kept.next run before_next) (next.value run before_drive);
    }
