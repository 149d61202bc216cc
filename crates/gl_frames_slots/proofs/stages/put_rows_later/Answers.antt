use Rattle.std.proofs.Common.{arith}
use Rattle.gl_net.proofs.Determined.{keeps_then}
use Rattle.gl_wire.proofs.ColumnLemmas.{bit_kept, bus_kept}
use Rattle.gl_frames_slots.proofs.MeetLemmas.{behind_two}
use Rattle.gl_frames_slots.proofs.stages.put_rows_later.Goals as goal

pub returns : goal.returns
returns c =
    let rows = c.args.rows in
    let valid = c.in_ok-valid.ensures in
    let begins = c.in_ok-begins.ensures in
    let first = c.in_ok-first.ensures in
    let next = c.in_ok-next.ensures in
    let slot = c.in_ok-slot.ensures in
    let new = c.later-2.new.net in
    let at_next = keeps_then c.later_bit-2.new.net c.later.new.net new next.keeps slot.keeps in
    let at_first = keeps_then c.later_bit.new.net c.later_bit-2.new.net new first.keeps at_next in
    let at_begins = keeps_then c.delay_bit.new.net c.later_bit.new.net new begins.keeps at_first in
    record {
      keeps = keeps_then c.args.net.now c.delay_bit.new.net new valid.keeps at_begins;
      cost = record {
        nodes = omega (arith, valid.cost.nodes, begins.cost.nodes, first.cost.nodes, next.cost.nodes, slot.cost.nodes);
        registers = omega (arith, valid.cost.registers, begins.cost.registers, first.cost.registers, next.cost.registers, slot.cost.registers, next.same_width);
        memories = omega (arith, valid.cost.memories, begins.cost.memories, first.cost.memories, next.cost.memories, slot.cost.memories);
      };
      has = record {
        valid = bit_kept c.delay_bit.new.net new c.in_ok-valid.valid at_begins valid.bit;
        first = bit_kept c.later_bit-2.new.net new c.in_ok-first.first at_next first.bit;
        slot = slot.bus;
        begins = bit_kept c.later_bit.new.net new c.in_ok-begins.begins at_first begins.bit;
        next = bus_kept c.later.new.net new c.in_ok-next.next slot.keeps next.bus;
        same_width = let same = slot.same_width in omega (arith, same);
        bits = let one = slot.same_width in let two = next.same_width in record { some' = omega (arith, one, two, c.requires.rows.bits.some'); most = omega (arith, one, two, c.requires.rows.bits.most) };
      };
      same_width = let one = slot.same_width in let two = next.same_width in omega (arith, one, two);
      behind = λ run r.
          let in_next = slot.keeps.runs run r in
          let in_first = next.keeps.runs run in_next in
          let in_begins = first.keeps.runs run in_first in
          behind_two run rows (record { valid = c.in_ok-valid.valid; first = c.in_ok-first.first; slot = c.in_ok-slot.slot; begins = c.in_ok-begins.begins; next = c.in_ok-next.next })
          (valid.line run (begins.keeps.runs run in_begins)) (begins.line run in_begins) (first.line run in_first) (next.value run in_next) (slot.value run r);
    }
