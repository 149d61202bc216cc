use Rattle.std.proofs.Common.{arith}
use Rattle.gl_net.proofs.Determined.{keeps_then}
use Rattle.gl_wire.proofs.ColumnLemmas.{bit_kept}
use Rattle.gl_frames_tree.proofs.parts.put_digit.Goals as goal

pub returns : goal.returns
returns c =
    let high = c.in_ok-high.ensures in
    let low = c.in_ok-low.ensures in
    record {
      keeps = keeps_then c.args.net.now c.put_bit.new.net c.put_bit-2.new.net high.keeps low.keeps;
      cost = record {
        nodes = omega (arith, high.cost.nodes, low.cost.nodes);
        registers = omega (arith, high.cost.registers, low.cost.registers);
        memories = omega (arith, high.cost.memories, low.cost.memories);
      };
      has = record { high = bit_kept c.put_bit.new.net c.put_bit-2.new.net c.in_ok-high.high low.keeps high.bit; low = low.bit };
      high = λ run r. high.line run (low.keeps.runs run r);
      low = λ run r. low.line run r;
    }
