use Rattle.std.proofs.Common.{Bool, suc, ap, sym, arith, ◌∙◌}
use Rattle.std.specs.Prelude.{not, ◌&&◌, nat_eq}
use Rattle.gl_net.proofs.Determined.{keeps_then}
use Rattle.gl_wire.specs.Wire.{line_at}
use Rattle.gl_frames_map.proofs.passing.put_far.Goals as goal

pub put_same-requires-clause-widths : goal.put_same-requires-clause-widths
put_same-requires-clause-widths c = c.requires.widths ∙ sym c.in_ok-before.ensures.same_width

pub returns : goal.returns
returns c =
    let before = c.in_ok-before.ensures in
    let ended = c.in_ok-ended.ensures in
    let within = c.in_ok-within.ensures in
    let again = c.in_ok-again.ensures in
    let far = c.in_ok-far.ensures in
    let k_again = keeps_then c.put_same.new.net c.but_not.new.net c.later_bit-2.new.net again.keeps far.keeps in
    let k_within = keeps_then c.later_bit.new.net c.put_same.new.net c.later_bit-2.new.net within.keeps k_again in
    let k_ended = keeps_then c.later.new.net c.later_bit.new.net c.later_bit-2.new.net ended.keeps k_within in
    record {
      keeps = keeps_then c.args.net.now c.later.new.net c.later_bit-2.new.net before.keeps k_ended;
      cost = record {
        nodes = omega (arith, before.cost.nodes, ended.cost.nodes, within.cost.nodes, again.cost.nodes, far.cost.nodes);
        registers = omega (arith, before.cost.registers, ended.cost.registers, within.cost.registers, again.cost.registers, far.cost.registers);
        memories = omega (arith, before.cost.memories, ended.cost.memories, within.cost.memories, again.cost.memories, far.cost.memories);
      };
      bit = far.bit;
      line = λ run r t.
          let at_again = far.keeps.runs run r in
          let at_within = again.keeps.runs run at_again in
          let at_ended = within.keeps.runs run at_within in
          let at_before = ended.keeps.runs run at_ended in
          let next = run.at (suc (suc t)) c.args.next.node in
          let ends = line_at run c.args.ends (suc (suc t)) in
          far.line run r (suc (suc t)) ∙ again.line run at_again (suc (suc t))
          ∙ ap (λ (b : Bool). b && not (line_at run c.in_ok-ended.ended (suc (suc t)))) (within.line run at_within (suc (suc t)))
          ∙ ap (λ x. (nat_eq next x && not ends) && not (line_at run c.in_ok-ended.ended (suc (suc t)))) (before.value run at_before t)
          ∙ ap (λ (b : Bool). (nat_eq next (run.at (suc t) c.args.last.node) && not ends) && not b) (ended.line run at_ended (suc t));
    }
