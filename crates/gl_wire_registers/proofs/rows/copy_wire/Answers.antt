use Rattle.std.proofs.Common.{subst, sym, arith}
use Rattle.gl_wire.specs.Wire.{AreBuses}
use Rattle.gl_net.proofs.Determined.{keeps_then}
use Rattle.gl_wire.proofs.ColumnLemmas.{buses_kept, bit_kept}
use Rattle.gl_wire_registers.proofs.rows.copy_wire.Goals as goal

pub returns : goal.returns
returns c =
    let valid = c.in_ok-valid.ensures in
    let eos = c.in_ok-eos.ensures in
    let net = c.later_bit-2.new.net in
    record {
      keeps = keeps_then c.args.net.now c.later_bit.new.net net valid.keeps eos.keeps;
      wire = record {
        valid = bit_kept c.later_bit.new.net net c.in_ok-valid.valid eos.keeps valid.bit;
        eos = eos.bit;
        columns = subst (AreBuses net) (sym c.in_ok-columns.ensures) (buses_kept c.later_bit.new.net net c.args.row.now eos.keeps (buses_kept c.args.net.now c.later_bit.new.net c.args.row.now valid.keeps c.requires.row));
      };
      columns = c.in_ok-columns.ensures;
      cost = record {
        nodes = omega (arith, valid.cost.nodes, eos.cost.nodes);
        registers = omega (arith, valid.cost.registers, eos.cost.registers);
        memories = omega (arith, valid.cost.memories, eos.cost.memories);
      };
      valid = λ run r. valid.line run (eos.keeps.runs run r);
      end = eos.line;
    }
