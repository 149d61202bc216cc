use Rattle.std.proofs.Common.{arith, subst, sym, List, refl, ◌∙◌}
use Rattle.gl_net.specs.declared.node.Bus.{Bus}
use Rattle.gl_net.proofs.Determined.{keeps_then}
use Rattle.gl_wire.specs.Stages.{IsPad}
use Rattle.gl_wire.specs.Wire.{AreBuses, wire_of}
use Rattle.gl_wire.proofs.ColumnLemmas.{bit_kept, bus_kept, buses_kept}
use Rattle.gl_frames_tree.proofs.level.put_stage.Goals as goal

pub later-requires : goal.later-requires
later-requires c = c.requires.told.number

pub later_bit-requires : goal.later_bit-requires
later_bit-requires c = bit_kept c.args.net.now c.later.new.net c.args.told.decision.make c.in_ok-node.ensures.keeps c.requires.told.decision.make

pub either-requires-clause-left : goal.either-requires-clause-left
either-requires-clause-left c =
    bit_kept c.args.net.now c.later_bit.new.net c.args.climb.now.lost (keeps_then c.args.net.now c.later.new.net c.later_bit.new.net c.in_ok-node.ensures.keeps c.in_ok-fresh.ensures.keeps) c.requires.climb.lost

pub either-requires-clause-right : goal.either-requires-clause-right
either-requires-clause-right c =
    bit_kept c.args.net.now c.later_bit.new.net c.args.told.decision.lost (keeps_then c.args.net.now c.later.new.net c.later_bit.new.net c.in_ok-node.ensures.keeps c.in_ok-fresh.ensures.keeps) c.requires.told.decision.lost

pub stage-requires-clause-columns : goal.stage-requires-clause-columns
stage-requires-clause-columns c =
    let node = c.in_ok-node.ensures in
    let fresh = c.in_ok-fresh.ensures in
    let both = c.in_ok-both.ensures in
    let all = keeps_then c.args.net.now c.later_bit.new.net c.later_bit-2.new.net (keeps_then c.args.net.now c.later.new.net c.later_bit.new.net node.keeps fresh.keeps)
    (keeps_then c.later_bit.new.net c.either.new.net c.later_bit-2.new.net both.keeps c.in_ok-lost.ensures.keeps) in
    subst (λ (bs : List Bus). AreBuses c.later_bit-2.new.net bs) (sym c.as_slice-columns.ensures)
    (buses_kept c.args.net.now c.later_bit-2.new.net c.args.climb.now.wire.columns all c.requires.climb.wire.columns)

pub returns : goal.returns
returns c =
    let node = c.in_ok-node.ensures in
    let fresh = c.in_ok-fresh.ensures in
    let both = c.in_ok-both.ensures in
    let lost = c.in_ok-lost.ensures in
    let row = c.args.told.decision.row in
    let climb = c.args.climb.now in
    let wire = subst (λ (bs : List Bus). IsPad c.later_bit-2.new.net c.stage.new.net 1 (wire_of row climb.wire.eos bs) c.in_ok-wire.wire) c.as_slice-columns.ensures c.in_ok-wire.ensures in
    let at_lost = wire.keeps in
    let at_both = keeps_then c.either.new.net c.later_bit-2.new.net c.stage.new.net lost.keeps at_lost in
    let at_fresh = keeps_then c.later_bit.new.net c.either.new.net c.stage.new.net both.keeps at_both in
    let at_node = keeps_then c.later.new.net c.later_bit.new.net c.stage.new.net fresh.keeps at_fresh in
    let all = keeps_then c.args.net.now c.later.new.net c.stage.new.net node.keeps at_node in
    record {
      keeps = all;
      cost = record {
        nodes = omega (arith, wire.cost.nodes, node.cost.nodes, fresh.cost.nodes, both.cost.nodes, lost.cost.nodes);
        registers = omega (arith, wire.cost.registers, node.cost.registers, fresh.cost.registers, both.cost.registers, lost.cost.registers, c.requires.told.number_width);
        memories = omega (arith, wire.cost.memories, node.cost.memories, fresh.cost.memories, both.cost.memories, lost.cost.memories);
      };
      has = record {
        wire = wire.wire;
        same_widths = wire.same_widths;
        node = bus_kept c.later.new.net c.stage.new.net c.in_ok-node.node at_node node.bus;
        node_width = node.same_width ∙ c.requires.told.number_width;
        next = bus_kept c.args.net.now c.stage.new.net c.args.told.seen all c.requires.told.seen;
        next_width = c.requires.told.seen_width;
        fresh = bit_kept c.later_bit.new.net c.stage.new.net c.in_ok-fresh.fresh at_fresh fresh.bit;
        lost = bit_kept c.later_bit-2.new.net c.stage.new.net c.in_ok-lost.lost at_lost lost.bit;
      };
      same_next = refl;
      law = λ run r.
          let in_lost = at_lost.runs run r in
          let in_both = lost.keeps.runs run in_lost in
          let in_fresh = both.keeps.runs run in_both in
          record {
            wire = wire.delayed run r;
            node = node.value run (fresh.keeps.runs run in_fresh);
            fresh = fresh.line run in_fresh;
            lost = λ t. lost.line run in_lost t ∙ both.line run in_both t;
          };
    }
