use Rattle.std.proofs.Common.{arith}
use Rattle.gl_net.proofs.Determined.{keeps_then}
use Rattle.gl_wire.proofs.ColumnLemmas.{bit_kept, buses_kept}
use Rattle.gl_groups.proofs.lane.hold_wire.Goals as goal

pub hold_all-requires-clause-columns : goal.hold_all-requires-clause-columns
hold_all-requires-clause-columns c =
    buses_kept c.args.net.now c.later_bit-2.new.net c.args.wire.now.columns (keeps_then c.args.net.now c.later_bit.new.net c.later_bit-2.new.net c.in_ok-valid.ensures.keeps c.in_ok-eos.ensures.keeps) c.requires.wire.columns

pub returns : goal.returns
returns c = rw c.note_stage.ensures (
    let valid = c.in_ok-valid.ensures in
    let eos = c.in_ok-eos.ensures in
    let row = c.in_ok-columns.ensures in
    let behind = keeps_then c.later_bit.new.net c.later_bit-2.new.net c.hold_all.new.net eos.keeps row.keeps in
    record {
      keeps = keeps_then c.args.net.now c.later_bit.new.net c.hold_all.new.net valid.keeps behind;
      wire = record {
        valid = bit_kept c.later_bit.new.net c.hold_all.new.net c.in_ok-valid.valid behind valid.bit;
        eos = bit_kept c.later_bit-2.new.net c.hold_all.new.net c.in_ok-eos.eos row.keeps eos.bit;
        columns = row.buses;
      };
      same_widths = row.same_widths;
      cost = record {
        nodes = omega (arith, valid.cost.nodes, eos.cost.nodes, row.cost.nodes);
        registers = omega (arith, valid.cost.registers, eos.cost.registers, row.cost.registers);
        memories = omega (arith, valid.cost.memories, eos.cost.memories, row.cost.memories);
      };
      law = λ run r.
          let at_eos = row.keeps.runs run r in
          record { valid = valid.line run (eos.keeps.runs run at_eos); eos = eos.line run at_eos; row = row.row run r };
    })
