use Rattle.std.proofs.Common.{ap, arith, ◌∙◌}
use Rattle.gl_wire.proofs.GateLemmas.{bit_of}
use Rattle.gl_groups.proofs.ToldNet.{less_line}
use Rattle.gl_groups.proofs.lane.less.Goals as goal

pub returns : goal.returns
returns c =
    let gate = c.in_ok-bus.ensures in
    record {
      keeps = gate.keeps;
      bit = bit_of c.binary.new.self c.in_ok-bus.bus c.bit.result gate.bus gate.width c.bit.ensures;
      cost = record { nodes = omega (arith, gate.size); registers = omega (arith, gate.register_bits); memories = omega (arith, gate.memory_bits) };
      line = λ run r. less_line run c.bit.result c.args.left c.args.right (λ t. ap (run.at t) c.bit.ensures ∙ gate.value run r t);
    }
