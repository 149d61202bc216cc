use Rattle.std.proofs.Common.{ap, arith, ◌∙◌}
use Rattle.gl_wire.proofs.GateLemmas.{bit_of}
use Rattle.gl_divide.proofs.DigitNet.{at_most_line}
use Rattle.gl_divide.proofs.digit.at_most.Goals as goal

pub returns : goal.returns
returns c =
    let out = c.in_ok-out.ensures in
    record {
      keeps = out.keeps;
      cost = record { nodes = omega (arith, out.size); registers = omega (arith, out.register_bits); memories = omega (arith, out.memory_bits) };
      bit = bit_of c.binary.new.self c.in_ok-out.out c.bit.result out.bus out.width c.bit.ensures;
      line = λ run r. at_most_line run c.bit.result c.args.less c.args.more (λ t. ap (run.at t) c.bit.ensures ∙ out.value run r t);
    }
