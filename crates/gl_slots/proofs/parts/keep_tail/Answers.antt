use Rattle.std.proofs.Common.{Bool, ap, arith, ◌∙◌}
use Rattle.std.specs.Prelude.{not, ◌&&◌, ◌||◌}
use Rattle.gl_net.proofs.Determined.{keeps_then}
use Rattle.gl_wire.specs.Wire.{line_at}
use Rattle.gl_slots.proofs.parts.keep_tail.Goals as goal

pub returns : goal.returns
returns c = rw c.note_tail.ensures (
    let with_end = c.in_ok-with_end.ensures in
    let held = c.in_ok-held.ensures in
    let resting = c.in_ok-resting.ensures in
    let tail = c.in_ok-tail.ensures in
    record {
      keeps = keeps_then c.args.net.now c.both.new.net _ with_end.keeps (keeps_then c.both.new.net c.latch.new.net _ held.keeps
          (keeps_then c.latch.new.net c.both-2.new.net c.either.new.net resting.keeps tail.keeps));
      bit = tail.bit;
      cost = record {
        nodes = omega (arith, with_end.cost.nodes, held.cost.nodes, resting.cost.nodes, tail.cost.nodes);
        registers = omega (arith, with_end.cost.registers, held.cost.registers, resting.cost.registers, tail.cost.registers);
        memories = omega (arith, with_end.cost.memories, held.cost.memories, resting.cost.memories, tail.cost.memories);
      };
      law = λ run r.
          let at_resting = tail.keeps.runs run r in
          let at_held = resting.keeps.runs run at_resting in
          let at_end = held.keeps.runs run at_held in
          record {
            next = λ t. held.line run at_held t ∙ ap (λ (b : Bool). b || (line_at run c.in_ok-held.held t && not (line_at run c.args.eos t))) (with_end.line run at_end t);
            tail = λ t. tail.line run r t ∙ ap (λ (b : Bool). b || line_at run c.in_ok-resting.resting t) (with_end.line run at_end t)
                ∙ ap (λ (b : Bool). (line_at run c.args.eos t && line_at run c.args.valid t) || b) (resting.line run at_resting t);
          };
    })
