use Rattle.std.proofs.Common.{ℕ, arith, subst, ◌∙◌}
use Rattle.gl_net.proofs.Determined.{keeps_then}
use Rattle.gl_wire_registers.specs.Counters.{IsCounter}
use Rattle.gl_groups.proofs.ToldNet.{over_is}
use Rattle.gl_groups.proofs.lane.count_over.Goals as goal

pub returns : goal.returns
returns c = rw c.note_over.ensures (
    let rest = subst (λ (n : ℕ). IsCounter c.args.net.now c.count_down.new.net c.args.eos c.args.due c.args.width c.args.count n 0 c.in_ok-rest.rest) c.from-others.ensures
    (subst (λ (n : ℕ). IsCounter c.args.net.now c.count_down.new.net c.args.eos c.args.due c.args.width n c.from-others.result 0 c.in_ok-rest.rest) c.from-all.ensures c.in_ok-rest.ensures) in
    let slots = c.in_ok-slots.ensures in
    let over = c.in_ok-over.ensures in
    record {
      keeps = keeps_then c.args.net.now c.count_down.new.net c.binary.new.self rest.keeps (keeps_then c.count_down.new.net c.number.new.net c.binary.new.self slots.keeps over.keeps);
      over_bus = over.bus;
      over_width = over.width ∙ slots.same_width;
      cost = record {
        nodes = omega (arith, rest.cost.nodes, slots.cost.nodes, over.size);
        registers = omega (arith, rest.cost.registers, slots.cost.registers, over.register_bits);
        memories = omega (arith, rest.cost.memories, slots.cost.memories, over.memory_bits);
      };
      next = λ run r. rest.next run (slots.keeps.runs run (over.keeps.runs run r));
      over = λ run r.
          let at_slots = over.keeps.runs run r in
          over_is run c.args.eos c.args.due c.args.count c.args.width c.requires.fits c.in_ok-rest.rest c.in_ok-slots.slots c.in_ok-over.over slots.same_width
          (rest.next run (slots.keeps.runs run at_slots)) (slots.value run at_slots) (over.value run r);
    })
