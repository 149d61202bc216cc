use Rattle.std.proofs.Common.{arith, ◌∙◌}
use Rattle.std.proofs.lemmas.Grind.{common_steps}
use Rattle.gl_wire_lanes.proofs.memory.put_memory.Goals as goal

pub returns : goal.returns
returns c = rw c.note_bus.ensures (
    let made = c.in_ok-store.ensures in
    let drive = c.in_ok-drive_memory.ensures in
    let out = c.in_ok-out.ensures in
    let store = c.in_ok-store.store.node in
    record {
      keeps = grind (arith, common_steps);
      cost = record {
        nodes = omega (arith, made.size, drive.size, out.size);
        registers = omega (arith, made.register_bits, drive.register_bits, out.register_bits);
        memories = omega (arith, made.memory_bits, drive.memory_bits, out.memory_bits);
      };
      bus = out.bus;
      same_width = out.width ∙ made.width;
      held = λ run r. record {
        word = λ t k. run.word t store k;
        reads = λ t. out.value run r t;
        writes = λ t k. drive.value run (out.keeps.runs run r) t k;
      };
    })
