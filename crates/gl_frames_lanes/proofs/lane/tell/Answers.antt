use Rattle.std.proofs.Common.{arith, ◌∙◌}
use Rattle.gl_bits.proofs.Wrapping.{cut_low}
use Rattle.gl_net.proofs.Determined.{keeps_then}
use Rattle.gl_wire.proofs.ColumnLemmas.{bit_kept}
use Rattle.gl_frames_lanes.proofs.lane.tell.Goals as goal

pub returns : goal.returns
returns c =
    let row = c.in_ok-row.ensures in
    let first = c.in_ok-first.ensures in
    let slot = c.in_ok-slot.ensures in
    let behind = keeps_then c.but_not.new.net c.but_not-2.new.net c.cut.new.self first.keeps slot.keeps in
    record {
      keeps = keeps_then c.args.net.now c.but_not.new.net c.cut.new.self row.keeps behind;
      cost = record {
        nodes = omega (arith, row.cost.nodes, first.cost.nodes, slot.size);
        registers = omega (arith, row.cost.registers, first.cost.registers, slot.register_bits);
        memories = omega (arith, row.cost.memories, first.cost.memories, slot.memory_bits);
      };
      row = bit_kept c.but_not.new.net c.cut.new.self c.in_ok-row.row behind row.bit;
      first = bit_kept c.but_not-2.new.net c.cut.new.self c.in_ok-first.first slot.keeps first.bit;
      slot = slot.bus;
      slot_width = slot.width ∙ omega (arith, c.requires.width.some');
      law = λ run r.
          let at_first = slot.keeps.runs run r in
          record {
            row = row.line run (first.keeps.runs run at_first);
            first = first.line run at_first;
            slot = λ t. slot.value run r t ∙ cut_low c.args.width (run.at t c.args.sought.now.place.number.node) c.requires.width.some';
          };
    }
