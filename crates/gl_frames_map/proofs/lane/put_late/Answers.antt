use Rattle.std.proofs.Common.{arith, sym, subst, List, ◌∙◌}
use Rattle.gl_net.specs.declared.node.Bus.{Bus}
use Rattle.gl_net.specs.Net.{Net}
use Rattle.gl_net.proofs.Determined.{keeps_then}
use Rattle.gl_wire.specs.Stages.{IsPad}
use Rattle.gl_wire.specs.Wire.{AreBuses, wire_of}
use Rattle.gl_wire.proofs.ColumnLemmas.{bit_kept, bus_kept, buses_kept}
use Rattle.gl_frames_map.proofs.lane.put_late.Goals as goal

pub stage-requires-clause-columns : goal.stage-requires-clause-columns
stage-requires-clause-columns c =
    let same = c.note_bit.ensures ∙ c.note_bus.ensures in
    let all = keeps_then c.args.net.now c.later.new.net c.later_bit-2.new.net c.in_ok-slot.ensures.keeps
    (keeps_then c.later.new.net c.later_bit.new.net c.later_bit-2.new.net c.in_ok-first.ensures.keeps c.in_ok-further.ensures.keeps) in
    subst (λ (n : Net). AreBuses n c.as_slice.result.now) (sym same)
    (subst (λ (bs : List Bus). AreBuses c.later_bit-2.new.net bs) (sym c.as_slice.ensures) (buses_kept _ _ c.args.late.now.columns all c.requires.late.columns))

pub returns : goal.returns
returns c =
    let slot = c.in_ok-slot.ensures in
    let first = c.in_ok-first.ensures in
    let further = c.in_ok-further.ensures in
    let row = c.args.told.decision.row in
    let late = c.args.late.now in
    let same = c.note_bit.ensures ∙ c.note_bus.ensures in
    let wire = subst (λ (n : Net). IsPad n c.stage.new.net 1 (wire_of row late.eos late.columns) c.in_ok-wire.wire) same
    (subst (λ (bs : List Bus). IsPad c.note_bit.new.net c.stage.new.net 1 (wire_of row late.eos bs) c.in_ok-wire.wire) c.as_slice.ensures c.in_ok-wire.ensures) in
    let at_further = wire.keeps in
    let at_first = keeps_then c.later_bit.new.net c.later_bit-2.new.net c.stage.new.net further.keeps at_further in
    let at_slot = keeps_then c.later.new.net c.later_bit.new.net c.stage.new.net first.keeps at_first in
    record {
      keeps = keeps_then c.args.net.now c.later.new.net c.stage.new.net slot.keeps at_slot;
      cost = record {
        nodes = omega (arith, wire.cost.nodes, slot.cost.nodes, first.cost.nodes, further.cost.nodes);
        registers = omega (arith, wire.cost.registers, slot.cost.registers, first.cost.registers, further.cost.registers);
        memories = omega (arith, wire.cost.memories, slot.cost.memories, first.cost.memories, further.cost.memories);
      };
      has = record {
        wire = wire.wire;
        same_widths = wire.same_widths;
        slot = bus_kept c.later.new.net c.stage.new.net c.in_ok-slot.slot at_slot slot.bus;
        slot_width = slot.same_width;
        first = bit_kept c.later_bit.new.net c.stage.new.net c.in_ok-first.first at_first first.bit;
        further = bit_kept c.later_bit-2.new.net c.stage.new.net c.in_ok-further.further at_further further.bit;
      };
      law = λ run r.
          let in_further = at_further.runs run r in
          let in_first = further.keeps.runs run in_further in
          record {
            wire = wire.delayed run r;
            slot = slot.value run (first.keeps.runs run in_first);
            first = first.line run in_first;
            further = further.line run in_further;
          };
    }
