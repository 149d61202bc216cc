use Rattle.std.proofs.Common.{arith, ◌∙◌}
use Rattle.std.proofs.lemmas.Grind.{common_steps}
use Rattle.gl_wire_registers.proofs.CounterLemmas.{pointer_at}
use Rattle.gl_wire_registers.proofs.counters.pointer.Goals as goal

pub returns : goal.returns
returns c =
    let register = c.in_ok-register.ensures in
    let next = c.in_ok-next.ensures in
    let drive = c.in_ok-drive.ensures in
    record {
      keeps = grind (arith, common_steps);
      cost = record {
        nodes = omega (arith, register.size, next.cost.nodes, drive.size);
        registers = omega (arith, register.register_bits, next.cost.registers, drive.register_bits);
        memories = omega (arith, register.memory_bits, next.cost.memories, drive.memory_bits);
      };
      bus = grind (arith, common_steps);
      width = register.width;
      next = λ run r.
          let before_drive = drive.grows.runs run r in
          pointer_at run c.in_ok-register.register c.args.last c.args.tick
          (register.start run (next.keeps.runs run before_drive) ∙ c.word.ensures.bits)
          (λ t l. drive.value run r t ∙ next.next run before_drive t l);
    }
