use Rattle.std.proofs.Common.{suc, ap, arith, ◌∙◌}
use Rattle.std.specs.Prelude.{Bool, if◌then◌else◌}
use Rattle.gl_bits.specs.Words.{difference_of}
use Rattle.gl_net.proofs.Determined.{keeps_then}
use Rattle.gl_wire.proofs.ColumnLemmas.{bit_kept}
use Rattle.gl_totals.proofs.sign.put_magnitude.Goals as goal

pub returns : goal.returns
returns c =
    let new = c.put_negated.new.net in
    let bus = c.args.bus in
    let sign = c.in_ok-sign.ensures in
    let size = c.in_ok-size.ensures in
    record {
      keeps = keeps_then c.args.net.now c.highest.new.net new sign.keeps size.keeps;
      cost = record {
        nodes = omega (arith, sign.cost.nodes, size.cost.nodes);
        registers = omega (arith, sign.cost.registers, size.cost.registers);
        memories = omega (arith, sign.cost.memories, size.cost.memories);
      };
      sign = bit_kept c.highest.new.net new c.in_ok-sign.sign size.keeps sign.bit;
      size = size.bus;
      same_width = size.same_width;
      line = λ run r t. sign.line run (size.keeps.runs run r) t;
      value = λ run r t.
          size.value run r t
          ∙ ap (λ (b : Bool). if b then difference_of bus.width 0 (run.at (suc t) bus.node) else run.at (suc t) bus.node) (sign.line run (size.keeps.runs run r) t);
    }
