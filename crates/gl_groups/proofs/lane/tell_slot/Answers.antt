use Rattle.std.proofs.Common.{arith, ◌∙◌}
use Rattle.gl_net.proofs.Determined.{keeps_then}
use Rattle.gl_groups.proofs.ToldNet.{slot_is}
use Rattle.gl_groups.proofs.lane.tell_slot.Goals as goal

pub returns : goal.returns
returns c =
    let at = c.in_ok-at.ensures in
    let turned = c.in_ok-turned.ensures in
    let told = c.in_ok-told.ensures in
    let slot = c.in_ok-slot.ensures in
    record {
      keeps = keeps_then c.args.net.now c.number_or.new.net c.cut.new.self at.keeps (keeps_then c.number_or.new.net c.either.new.net c.cut.new.self turned.keeps (keeps_then c.either.new.net c.choose.new.self c.cut.new.self told.keeps slot.keeps));
      bus = slot.bus;
      same_width = slot.width ∙ omega (arith, c.requires.width.some');
      cost = record {
        nodes = omega (arith, at.cost.nodes, turned.cost.nodes, told.size, slot.size);
        registers = omega (arith, at.cost.registers, turned.cost.registers, told.register_bits, slot.register_bits);
        memories = omega (arith, at.cost.memories, turned.cost.memories, told.memory_bits, slot.memory_bits);
      };
      slot = λ run r.
          let at_told = slot.keeps.runs run r in
          let at_turned = told.keeps.runs run at_told in
          slot_is run c.args.eos c.in_ok-turned.turned c.args.turns.now c.args.number c.in_ok-at.at c.in_ok-told.told c.in_ok-slot.slot c.args.width c.requires.width.some'
          (at.value run (turned.keeps.runs run at_turned)) (turned.line run at_turned) (told.value run at_told) (slot.value run r);
    }
