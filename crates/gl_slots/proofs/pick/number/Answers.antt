use Rattle.std.proofs.Common.{suc, arith, ◌∙◌}
use Rattle.gl_wire_registers.specs.Held.{held_at}
use Rattle.gl_slots.proofs.pick.number.Goals as goal

pub returns : goal.returns
unfolding held_at
returns c =
    let bus = c.in_ok-bus.ensures in
    record {
      keeps = bus.keeps;
      bus = bus.bus;
      same_width = bus.width ∙ c.word.ensures.width;
      cost = record { nodes = omega (arith, bus.size); registers = omega (arith, bus.register_bits); memories = omega (arith, bus.memory_bits) };
      value = λ run r t. bus.value run r (suc t) ∙ c.word.ensures.bits ∙ c.from.ensures;
    }
