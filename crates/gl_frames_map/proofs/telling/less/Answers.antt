use Rattle.std.proofs.Common.{suc, ap, arith, ◌∙◌}
use Rattle.gl_wire.proofs.GateLemmas.{bit_of}
use Rattle.gl_frames_map.proofs.SeenNet.{less_line}
use Rattle.gl_frames_map.proofs.telling.less.Goals as goal

pub returns : goal.returns
returns c =
    let gate = c.in_ok-bus.ensures in
    record {
      keeps = gate.keeps;
      cost = record { nodes = gate.size; registers = omega (arith, gate.register_bits); memories = omega (arith, gate.memory_bits) };
      bit = bit_of c.binary.new.self c.in_ok-bus.bus c.bit.result gate.bus gate.width c.bit.ensures;
      line = λ run r t. less_line run c.bit.result (run.at (suc t) c.args.left.node) (run.at (suc t) c.args.right.node) t
          (ap (run.at (suc t)) c.bit.ensures ∙ gate.value run r (suc t));
    }
