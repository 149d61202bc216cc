use Rattle.std.proofs.Common.{ap, arith, ◌∙◌}
use Rattle.gl_bits.proofs.Wrapping.{one_fits}
use Rattle.gl_net.specs.Net.{binary_of}
use Rattle.gl_net.proofs.Determined.{keeps_then}
use Rattle.gl_wire_registers.proofs.numbers.with_one.Goals as goal

pub word-requires-clause-fits : goal.word-requires-clause-fits
word-requires-clause-fits c = one_fits c.args.bus.width c.requires.width.some'

pub returns : goal.returns
returns c =
    let one = c.in_ok-one.ensures in
    let made = c.in_ok-made.ensures in
    record {
      keeps = keeps_then c.args.net.now c.constant.new.self c.binary.new.self one.keeps made.keeps;
      cost = record {
        nodes = omega (arith, one.size, made.size);
        registers = omega (arith, one.register_bits, made.register_bits);
        memories = omega (arith, one.memory_bits, made.memory_bits);
      };
      bus = made.bus;
      width = made.width;
      value = λ run r t. made.value run r t
          ∙ ap (binary_of c.args.op c.args.bus.width (run.at t c.args.bus.node)) (one.value run (made.keeps.runs run r) t ∙ c.word.ensures.bits);
    }
