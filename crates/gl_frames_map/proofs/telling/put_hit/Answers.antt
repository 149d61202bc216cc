use Rattle.std.proofs.Common.{Bool, ap, arith, ◌∙◌}
use Rattle.std.specs.Prelude.{◌&&◌}
use Rattle.gl_net.proofs.Determined.{keeps_then}
use Rattle.gl_wire.specs.Wire.{line_at}
use Rattle.gl_frames_map.proofs.telling.put_hit.Goals as goal

pub returns : goal.returns
returns c =
    let equal = c.in_ok-equal.ensures in
    let hit = c.in_ok-hit.ensures in
    record {
      keeps = keeps_then c.args.net.now c.same.new.net c.both.new.net equal.keeps hit.keeps;
      cost = record {
        nodes = omega (arith, equal.cost.nodes, hit.cost.nodes);
        registers = omega (arith, equal.cost.registers, hit.cost.registers);
        memories = omega (arith, equal.cost.memories, hit.cost.memories);
      };
      bit = hit.bit;
      line = λ run r t. hit.line run r t
          ∙ ap (λ (b : Bool). line_at run c.args.below t && b) (equal.line run (hit.keeps.runs run r) t);
    }
