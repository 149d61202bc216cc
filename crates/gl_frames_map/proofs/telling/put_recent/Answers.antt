use Rattle.std.proofs.Common.{Bool, suc, ap, arith, ◌∙◌}
use Rattle.std.specs.Prelude.{◌&&◌, nat_lt}
use Rattle.gl_net.proofs.Determined.{keeps_then}
use Rattle.gl_wire.specs.Wire.{line_at}
use Rattle.gl_wire.proofs.ColumnLemmas.{bit_kept, bus_kept}
use Rattle.gl_frames_map.proofs.telling.put_recent.Goals as goal

pub less-requires-clause-widths : goal.less-requires-clause-widths
less-requires-clause-widths c = c.in_ok-before.ensures.same_width

pub returns : goal.returns
returns c =
    let before = c.in_ok-before.ensures in
    let earlier = c.in_ok-earlier.ensures in
    let grows = c.in_ok-grows.ensures in
    let grew = c.in_ok-grew.ensures in
    let one = c.in_ok-one.ensures in
    let two = c.in_ok-two.ensures in
    let k_grew = keeps_then c.later_bit.new.net c.both.new.net c.both-2.new.net one.keeps two.keeps in
    let k_grows = keeps_then c.less.new.net c.later_bit.new.net c.both-2.new.net grew.keeps k_grew in
    let k_earlier = keeps_then c.later-2.new.net c.less.new.net c.both-2.new.net grows.keeps k_grows in
    let k_before = keeps_then c.later.new.net c.later-2.new.net c.both-2.new.net earlier.keeps k_earlier in
    record {
      keeps = keeps_then c.args.net.now c.later.new.net c.both-2.new.net before.keeps k_before;
      cost = record {
        nodes = omega (arith, before.cost.nodes, earlier.cost.nodes, grows.cost.nodes, grew.cost.nodes, one.cost.nodes, two.cost.nodes);
        registers = omega (arith, before.cost.registers, earlier.cost.registers, grows.cost.registers, grew.cost.registers, one.cost.registers, two.cost.registers, before.same_width);
        memories = omega (arith, before.cost.memories, earlier.cost.memories, grows.cost.memories, grew.cost.memories, one.cost.memories, two.cost.memories);
      };
      has = record {
        one = bit_kept c.both.new.net c.both-2.new.net c.in_ok-one.one two.keeps one.bit;
        two = two.bit;
        before = bus_kept c.later.new.net c.both-2.new.net c.in_ok-before.before k_before before.bus;
        before_width = before.same_width;
        earlier = bus_kept c.later-2.new.net c.both-2.new.net c.in_ok-earlier.earlier k_earlier earlier.bus;
        earlier_width = earlier.same_width ∙ before.same_width;
      };
      law = λ run r.
          let at_one = two.keeps.runs run r in
          let at_grew = one.keeps.runs run at_one in
          let at_grows = grew.keeps.runs run at_grew in
          let at_earlier = grows.keeps.runs run at_grows in
          let at_before = earlier.keeps.runs run at_earlier in
          record {
            one = λ t. one.line run at_one (suc (suc t))
                ∙ ap (λ (b : Bool). line_at run c.args.near (suc (suc t)) && b) (grows.line run at_grows (suc t))
                ∙ ap (λ x. line_at run c.args.near (suc (suc t)) && nat_lt x (run.at (suc (suc t)) c.args.used.node)) (before.value run at_before t);
            two = λ t. two.line run r (suc (suc (suc t)))
                ∙ ap (λ (b : Bool). line_at run c.args.far (suc (suc (suc t))) && b) (grew.line run at_grew (suc (suc t)) ∙ grows.line run at_grows (suc t))
                ∙ ap (λ x. line_at run c.args.far (suc (suc (suc t))) && nat_lt x (run.at (suc (suc t)) c.args.used.node)) (before.value run at_before t);
            before = before.value run at_before;
            earlier = λ t. earlier.value run at_earlier (suc t) ∙ before.value run at_before t;
          };
    }
