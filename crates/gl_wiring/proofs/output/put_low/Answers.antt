use Rattle.std.proofs.Common.{ap, arith, ◌∙◌}
use Rattle.gl_wire.proofs.GateLemmas.{bit_of}
use Rattle.gl_wiring.proofs.OutputLemmas.{low_is, low_later}
use Rattle.gl_wiring.proofs.output.put_low.Goals as goal

pub returns-clause-group : goal.returns-clause-group
returns-clause-group c =
    let bus = c.in_ok-bus.ensures in
    record {
      keeps = bus.keeps;
      cost = record { nodes = omega (arith, bus.size); registers = omega (arith, bus.register_bits); memories = omega (arith, bus.memory_bits) };
      bit = bit_of c.constant.new.self c.in_ok-bus.bus c.bit.result bus.bus (bus.width ∙ c.low.ensures.width) c.bit.ensures;
      sticky = λ run r. low_is run c.bit.result (λ t. ap (run.at t) c.bit.ensures ∙ bus.value run r t ∙ c.low.ensures.bits);
    }

pub returns-clause-queue : goal.returns-clause-queue
returns-clause-queue c =
    let bus = c.in_ok-bus.ensures in
    record {
      keeps = bus.keeps;
      cost = record { nodes = omega (arith, bus.size); registers = omega (arith, bus.register_bits); memories = omega (arith, bus.memory_bits) };
      bit = bit_of c.constant.new.self c.in_ok-bus.bus c.bit.result bus.bus (bus.width ∙ c.low.ensures.width) c.bit.ensures;
      sticky = λ run r. low_later run c.bit.result (λ t. ap (run.at t) c.bit.ensures ∙ bus.value run r t ∙ c.low.ensures.bits);
    }
