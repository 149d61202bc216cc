use Rattle.std.proofs.Common.{arith, ◌∙◌}
use Rattle.gl_rows.proofs.cast.put_zeros.Goals as goal

pub returns : goal.returns
returns c =
    let made = c.in_ok-zeros.ensures in
    record {
      keeps = made.keeps;
      cost = record { nodes = omega (arith, made.size); registers = omega (arith, made.register_bits); memories = omega (arith, made.memory_bits) };
      bus = made.bus;
      same_width = made.width ∙ c.zero_word.ensures.width;
      carries = λ run r t. made.value run r t ∙ c.zero_word.ensures.bits;
    }
