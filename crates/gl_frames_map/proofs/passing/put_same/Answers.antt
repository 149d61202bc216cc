use Rattle.std.proofs.Common.{Bool, ap, arith, ◌∙◌}
use Rattle.std.specs.Prelude.{not, ◌&&◌}
use Rattle.gl_net.proofs.Determined.{keeps_then}
use Rattle.gl_wire.specs.Wire.{line_at}
use Rattle.gl_frames_map.proofs.passing.put_same.Goals as goal

pub returns : goal.returns
returns c =
    let equal = c.in_ok-equal.ensures in
    let within = c.in_ok-within.ensures in
    record {
      keeps = keeps_then c.args.net.now c.same.new.net c.but_not.new.net equal.keeps within.keeps;
      cost = record {
        nodes = omega (arith, equal.cost.nodes, within.cost.nodes);
        registers = omega (arith, equal.cost.registers, within.cost.registers);
        memories = omega (arith, equal.cost.memories, within.cost.memories);
      };
      bit = within.bit;
      line = λ run r t. within.line run r t
          ∙ ap (λ (b : Bool). b && not (line_at run c.args.ends t)) (equal.line run (within.keeps.runs run r) t);
    }
