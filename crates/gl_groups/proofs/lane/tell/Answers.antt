use Rattle.std.proofs.Common.{length, sym, arith, ◌∙◌}
use Rattle.gl_net.proofs.Determined.{keeps_then}
use Rattle.gl_wire.proofs.ColumnLemmas.{bit_kept, bus_kept, wire_kept}
use Rattle.gl_groups.proofs.FoundNet.{sought_kept}
use Rattle.gl_groups.proofs.lane.tell.Goals as goal

pub tell_end-requires-clause-late : goal.tell_end-requires-clause-late
tell_end-requires-clause-late c = wire_kept c.args.net.now c.tell_row.new.net c.args.late.now c.in_ok-row.ensures.keeps c.requires.late

pub tell_end-requires-clause-sought : goal.tell_end-requires-clause-sought
tell_end-requires-clause-sought c = (
  c.requires.sought.0,
  sought_kept c.args.net.now c.tell_row.new.net (length c.args.sought.now.kept) c.args.turns.now.over.width c.requires.sought.0 c.args.sought.now c.in_ok-row.ensures.keeps c.requires.sought.1,
)

pub returns : goal.returns
returns c = rw c.note_told.ensures (
    let row = c.in_ok-row.ensures in
    let end = c.in_ok-end.ensures in
    let slot = c.in_ok-slot.ensures in
    let key = c.in_ok-key.ensures in
    let first = c.in_ok-first.ensures in
    let last = c.both.new.net in
    let k_slot = keeps_then c.tell_slot.new.net c.tell_new.new.net last key.keeps first.keeps in
    let k_end = keeps_then c.tell_end.new.net c.tell_slot.new.net last slot.keeps k_slot in
    let k_row = keeps_then c.tell_row.new.net c.tell_end.new.net last end.keeps k_end in
    record {
      keeps = keeps_then c.args.net.now c.tell_row.new.net last row.keeps k_row;
      row_bit = bit_kept c.tell_row.new.net last c.in_ok-row.row k_row row.bit;
      end_bit = bit_kept c.tell_end.new.net last c.in_ok-end.end k_end end.bit;
      slot_bus = bus_kept c.tell_slot.new.net last c.in_ok-slot.slot k_slot slot.bus;
      slot_width = slot.same_width;
      first_bit = first.bit;
      cost = record {
        nodes = omega (arith, row.cost.nodes, end.cost.nodes, slot.cost.nodes, key.cost.nodes, first.cost.nodes);
        registers = omega (arith, row.cost.registers, end.cost.registers, slot.cost.registers, key.cost.registers, first.cost.registers);
        memories = omega (arith, row.cost.memories, end.cost.memories, slot.cost.memories, key.cost.memories, first.cost.memories);
      };
      law = λ run z.
          let at_key = first.keeps.runs run z in
          record {
            row = row.line run (k_row.runs run z);
            end = end.line run (k_end.runs run z);
            slot = slot.slot run (k_slot.runs run z);
            first = first.line run z;
            new_is = key.new_is run at_key;
            next = λ t. key.next run at_key t ∙ sym (key.new_is run at_key t);
          };
    })
