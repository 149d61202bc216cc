use Rattle.std.proofs.Common.{Bool, ap, arith, ◌∙◌}
use Rattle.std.specs.Prelude.{◌||◌}
use Rattle.gl_net.proofs.Determined.{keeps_then}
use Rattle.gl_wire.specs.Wire.{line_at}
use Rattle.gl_frames_map.proofs.telling.put_known.Goals as goal

pub returns : goal.returns
returns c =
    let read = c.in_ok-read.ensures in
    let known = c.in_ok-known.ensures in
    record {
      keeps = keeps_then c.args.net.now c.either.new.net c.either-2.new.net read.keeps known.keeps;
      cost = record {
        nodes = omega (arith, read.cost.nodes, known.cost.nodes);
        registers = omega (arith, read.cost.registers, known.cost.registers);
        memories = omega (arith, read.cost.memories, known.cost.memories);
      };
      bit = known.bit;
      line = λ run r t. known.line run r t
          ∙ ap (λ (b : Bool). b || line_at run c.args.two t) (read.line run (known.keeps.runs run r) t);
    }
