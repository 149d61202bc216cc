use Rattle.std.proofs.Common.{ap, arith, ◌∙◌}
use Rattle.gl_bits.specs.Words.{eq_of}
use Rattle.gl_net.proofs.Determined.{keeps_then}
use Rattle.gl_wire_registers.proofs.NumberLemmas.{equal_line}
use Rattle.gl_wire_registers.proofs.numbers.when_equal.Goals as goal

pub returns : goal.returns
returns c =
    let number = c.in_ok-number.ensures in
    let same = c.in_ok-same.ensures in
    let gate = c.in_ok-bit.ensures in
    record {
      keeps = keeps_then c.args.net.now c.constant.new.self _ number.keeps (keeps_then c.constant.new.self c.binary.new.self c.both.new.net same.keeps gate.keeps);
      cost = record {
        nodes = omega (arith, number.size, same.size, gate.cost.nodes);
        registers = omega (arith, number.register_bits, same.register_bits, gate.cost.registers);
        memories = omega (arith, number.memory_bits, same.memory_bits, gate.cost.memories);
      };
      bit = gate.bit;
      line = λ run r reset.
          let before_bit = gate.keeps.runs run r in
          equal_line run c.args.line c.bit.result c.in_ok-bit.bit c.args.register c.args.number reset
          (λ t. ap (run.at t) c.bit.ensures ∙ same.value run before_bit t
          ∙ ap (eq_of (run.at t c.args.register.node)) (number.value run (same.keeps.runs run before_bit) t ∙ c.word.ensures.bits))
          (gate.line run r);
    }
