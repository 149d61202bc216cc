use Rattle.std.proofs.Common.{arith, suc, ◌∙◌}
use Rattle.std.proofs.lemmas.Grind.{common_steps}
use Rattle.gl_wire_registers.proofs.counters.hold.Goals as goal

pub returns : goal.returns
returns c =
    let register = c.in_ok-register.ensures in
    let next = c.in_ok-next.ensures in
    let drive = c.in_ok-drive.ensures in
    record {
      keeps = grind (arith, common_steps);
      cost = record {
        nodes = omega (arith, register.size, next.size, drive.size);
        registers = omega (arith, register.register_bits, next.register_bits, drive.register_bits);
        memories = omega (arith, register.memory_bits, next.memory_bits, drive.memory_bits);
      };
      bus = grind (arith, common_steps);
      width = register.width;
      value = λ run r t. drive.value run r t ∙ next.value run (drive.grows.runs run r) (suc t);
    }
