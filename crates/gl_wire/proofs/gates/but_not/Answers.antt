use Rattle.std.proofs.Common.{ℕ, ap, arith, ◌∙◌}
use Rattle.gl_bits.specs.Words.{lt_of}
use Rattle.gl_wire.proofs.GateLemmas.{bit_of, but_not_is}
use Rattle.gl_wire.proofs.gates.but_not.Goals as goal

pub returns : goal.returns
returns c =
    let gate = c.in_ok-bus.ensures in
    but_not_is c.args.net.now c.binary.new.self c.args.left c.args.right c.bit.result c.requires.left c.requires.right gate.keeps
    (record { nodes = gate.size; registers = omega (arith, gate.register_bits); memories = omega (arith, gate.memory_bits) })
    (bit_of c.binary.new.self c.in_ok-bus.bus c.bit.result gate.bus gate.width c.bit.ensures)
    (λ run r t. ap (run.at t) c.bit.ensures ∙ gate.value run r t
    ∙ ap (λ (n : ℕ). lt_of (run.at t n) (run.at t c.bus-2.result.node)) c.bus.ensures.node
    ∙ ap (λ (n : ℕ). lt_of (run.at t c.args.right.node) (run.at t n)) c.bus-2.ensures.node)
