use Rattle.std.proofs.Common.{arith}
use Rattle.gl_net.proofs.Determined.{keeps_then}
use Rattle.gl_wire.proofs.ColumnLemmas.{bit_kept}
use Rattle.gl_frames_stages.proofs.lines.delay_lines.Goals as goal

pub returns : goal.returns
returns c =
    let valid = c.in_ok-valid.ensures in
    let eos = c.in_ok-eos.ensures in
    record {
      keeps = keeps_then _ c.delay_bit.new.net _ valid.keeps eos.keeps;
      cost = record {
        nodes = omega (arith, valid.cost.nodes, eos.cost.nodes);
        registers = omega (arith, valid.cost.registers, eos.cost.registers);
        memories = omega (arith, valid.cost.memories, eos.cost.memories);
      };
      row_line = bit_kept _ _ c.in_ok-valid.valid eos.keeps valid.bit;
      end_line = eos.bit;
      behind = λ run r. record { rows = valid.line run (eos.keeps.runs run r); ends = eos.line run r };
    }
