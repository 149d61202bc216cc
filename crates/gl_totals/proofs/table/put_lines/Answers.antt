use Rattle.std.proofs.Common.{arith}
use Rattle.gl_net.proofs.Determined.{keeps_then}
use Rattle.gl_wire.proofs.ColumnLemmas.{bit_kept}
use Rattle.gl_totals.proofs.table.put_lines.Goals as goal

pub returns : goal.returns
returns c = rw c.note_lane.ensures (
    let old = c.args.net.now in
    let new = c.later.new.net in
    let valid = c.in_ok-valid.ensures in
    let eos = c.in_ok-eos.ensures in
    let first = c.in_ok-first.ensures in
    let slot = c.in_ok-slot.ensures in
    let behind_eos = keeps_then _ c.later_bit-3.new.net new first.keeps slot.keeps in
    let behind_valid = keeps_then _ c.later_bit-2.new.net new eos.keeps behind_eos in
    record {
      keeps = keeps_then old c.later_bit.new.net new valid.keeps behind_valid;
      cost = record {
        nodes = omega (arith, valid.cost.nodes, eos.cost.nodes, first.cost.nodes, slot.cost.nodes);
        registers = omega (arith, valid.cost.registers, eos.cost.registers, first.cost.registers, slot.cost.registers);
        memories = omega (arith, valid.cost.memories, eos.cost.memories, first.cost.memories, slot.cost.memories);
      };
      row_line = bit_kept _ new c.in_ok-valid.valid behind_valid valid.bit;
      end_line = bit_kept _ new c.in_ok-eos.eos behind_eos eos.bit;
      first_line = bit_kept _ new c.in_ok-first.first slot.keeps first.bit;
      slot_bus = slot.bus;
      same_width = slot.same_width;
      valids = λ run r. valid.line run (behind_valid.runs run r);
      ends = λ run r. eos.line run (behind_eos.runs run r);
      firsts = λ run r. first.line run (slot.keeps.runs run r);
      slots = λ run r. slot.value run r;
    })
