use Rattle.std.proofs.Common.{arith, ◌∙◌}
use Rattle.gl_net.proofs.Determined.{keeps_then}
use Rattle.gl_frames_map.proofs.passing.put_near.Goals as goal

pub returns : goal.returns
returns c =
    let within = c.in_ok-within.ensures in
    let near = c.in_ok-near.ensures in
    record {
      keeps = keeps_then c.args.net.now c.put_same.new.net c.later_bit.new.net within.keeps near.keeps;
      cost = record {
        nodes = omega (arith, within.cost.nodes, near.cost.nodes);
        registers = omega (arith, within.cost.registers, near.cost.registers);
        memories = omega (arith, within.cost.memories, near.cost.memories);
      };
      bit = near.bit;
      line = λ run r t. near.line run r t ∙ within.line run (near.keeps.runs run r) t;
    }
