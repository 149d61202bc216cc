use Rattle.std.proofs.Common.{ap, arith, ◌∙◌}
use Rattle.gl_wire.proofs.GateLemmas.{bit_of, same_is}
use Rattle.gl_wire.proofs.gates.same.Goals as goal

pub returns : goal.returns
returns c =
    let gate = c.in_ok-bus.ensures in
    same_is c.args.net.now c.binary.new.self c.args.left c.args.right c.bit.result gate.keeps
    (record { nodes = gate.size; registers = omega (arith, gate.register_bits); memories = omega (arith, gate.memory_bits) })
    (bit_of c.binary.new.self c.in_ok-bus.bus c.bit.result gate.bus gate.width c.bit.ensures)
    (λ run r t. ap (run.at t) c.bit.ensures ∙ gate.value run r t)
