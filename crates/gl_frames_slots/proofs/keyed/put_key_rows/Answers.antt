use Rattle.std.proofs.Common.{arith, refl}
use Rattle.gl_net.proofs.Determined.{keeps_then}
use Rattle.gl_wire.proofs.ColumnLemmas.{bit_kept, bus_kept, wire_kept}
use Rattle.gl_frames_slots.proofs.keyed.put_key_rows.Goals as goal

pub later_wire-requires : goal.later_wire-requires
later_wire-requires c =
    wire_kept c.args.net.now c.later.new.net c.args.lane.now.wire (keeps_then c.args.net.now c.later_bit.new.net c.later.new.net c.in_ok-first.ensures.keeps c.in_ok-slot.ensures.keeps) c.requires.wire

pub returns : goal.returns
returns c =
    let lane = c.args.lane.now in
    let first = c.in_ok-first.ensures in
    let slot = c.in_ok-slot.ensures in
    let wire = c.in_ok-wire.ensures in
    let behind = keeps_then c.later_bit.new.net c.later.new.net c.later_wire.new.net slot.keeps wire.keeps in
    let all = keeps_then c.args.net.now c.later_bit.new.net c.later_wire.new.net first.keeps behind in
    record {
      keeps = all;
      cost = record {
        nodes = omega (arith, first.cost.nodes, slot.cost.nodes, wire.cost.nodes);
        registers = omega (arith, first.cost.registers, slot.cost.registers, wire.cost.registers);
        memories = omega (arith, first.cost.memories, slot.cost.memories, wire.cost.memories);
      };
      wire = wire.wire;
      same_widths = wire.same_widths;
      rows = record {
        valid = wire.wire.valid;
        first = bit_kept c.later_bit.new.net c.later_wire.new.net c.in_ok-first.first behind first.bit;
        slot = bus_kept c.later.new.net c.later_wire.new.net c.in_ok-slot.slot wire.keeps slot.bus;
        begins = bit_kept c.args.net.now c.later_wire.new.net lane.first all c.requires.first;
        next = bus_kept c.args.net.now c.later_wire.new.net lane.slot all c.requires.slot;
        same_width = let same = slot.same_width in omega (arith, same);
        bits = let same = slot.same_width in record { some' = omega (arith, same, c.requires.bits.some'); most = omega (arith, same, c.requires.bits.most) };
      };
      same_width = slot.same_width;
      same_line = refl;
      same_begins = refl;
      same_next = refl;
      law = λ run r.
          let at_slot = wire.keeps.runs run r in
          record {
            delayed = wire.delayed run r;
            firsts = first.line run (slot.keeps.runs run at_slot);
            slots = slot.value run at_slot;
          };
    }
