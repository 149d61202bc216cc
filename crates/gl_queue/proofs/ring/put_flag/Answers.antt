use Rattle.std.proofs.Common.{Bool, ap, arith, ◌∙◌}
use Rattle.std.specs.Prelude.{◌&&◌, ◌||◌, not}
use Rattle.gl_net.proofs.Determined.{keeps_then}
use Rattle.gl_wire.specs.Wire.{line_at}
use Rattle.gl_queue.proofs.ring.put_flag.Goals as goal

pub returns : goal.returns
returns c =
    let empties = c.in_ok-empties.ensures in
    let stays = c.in_ok-stays.ensures in
    let next = c.in_ok-next.ensures in
    record {
      keeps = keeps_then c.args.net.now c.both.new.net _ empties.keeps (keeps_then c.both.new.net _ _ stays.keeps next.keeps);
      cost = record {
        nodes = omega (arith, empties.cost.nodes, stays.cost.nodes, next.cost.nodes);
        registers = omega (arith, empties.cost.registers, stays.cost.registers, next.cost.registers);
        memories = omega (arith, empties.cost.memories, stays.cost.memories, next.cost.memories);
      };
      bit = next.bit;
      line = λ run r t.
          let at_stays = next.keeps.runs run r in
          let at_empties = stays.keeps.runs run at_stays in
          next.line run r t
          ∙ ap (λ (b : Bool). line_at run c.args.push t || b) (stays.line run at_stays t ∙ ap (λ (b : Bool). line_at run c.args.some t && not b) (empties.line run at_empties t));
    }
