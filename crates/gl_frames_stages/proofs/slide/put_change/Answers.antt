use Rattle.std.proofs.Common.{suc, arith, ◌∙◌}
use Rattle.gl_net.proofs.Determined.{keeps_then}
use Rattle.gl_frames_stages.proofs.slide.put_change.Goals as goal

pub returns : goal.returns
returns c =
    let change = c.in_ok-change.ensures in
    let out = c.in_ok-out.ensures in
    record {
      keeps = keeps_then _ c.binary.new.self _ change.keeps out.keeps;
      cost = record {
        nodes = omega (arith, change.size, out.cost.nodes);
        registers = omega (arith, change.register_bits, out.cost.registers, change.width);
        memories = omega (arith, change.memory_bits, out.cost.memories);
      };
      bus = out.bus;
      same_width = out.same_width ∙ change.width;
      changes = λ run r t. out.value run r t ∙ change.value run (out.keeps.runs run r) (suc t);
    }
