use Rattle.std.proofs.Common.{ap, arith, ◌∙◌}
use Rattle.gl_wire.proofs.GateLemmas.{bit_of}
use Rattle.gl_wire_registers.proofs.NumberLemmas.{always_line}
use Rattle.gl_wire_registers.proofs.numbers.always.Goals as goal

pub returns : goal.returns
returns c =
    let bus = c.in_ok-bus.ensures in
    record {
      keeps = bus.keeps;
      cost = record {
        nodes = omega (arith, bus.size);
        registers = omega (arith, bus.register_bits);
        memories = omega (arith, bus.memory_bits);
      };
      bit = bit_of c.constant.new.self c.in_ok-bus.bus c.bit.result bus.bus (bus.width ∙ c.word.ensures.width) c.bit.ensures;
      line = λ run r. always_line run c.bit.result (λ t. ap (run.at t) c.bit.ensures ∙ bus.value run r t ∙ c.word.ensures.bits);
    }
