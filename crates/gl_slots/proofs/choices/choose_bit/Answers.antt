use Rattle.std.proofs.Common.{ℕ, ap, arith, ◌∙◌}
use Rattle.gl_bits.specs.Words.{choose_of}
use Rattle.gl_wire.proofs.GateLemmas.{bit_of}
use Rattle.gl_slots.proofs.ChoiceLemmas.{chosen_line}
use Rattle.gl_slots.proofs.choices.choose_bit.Goals as goal

pub returns : goal.returns
returns c =
    let bus = c.in_ok-bus.ensures in
    chosen_line c.args.net.now c.choose.new.self c.args.test c.args.yes c.args.no c.bit.result bus.keeps
    (record { nodes = omega (arith, bus.size); registers = omega (arith, bus.register_bits); memories = omega (arith, bus.memory_bits) })
    (bit_of c.choose.new.self c.in_ok-bus.bus c.bit.result bus.bus (bus.width ∙ c.bus.ensures.width) c.bit.ensures)
    (λ run r t. ap (run.at t) c.bit.ensures ∙ bus.value run r t
    ∙ ap (λ (n : ℕ). choose_of (run.at t c.args.test.node) (run.at t n) (run.at t c.bus-2.result.node)) c.bus.ensures.node
    ∙ ap (λ (n : ℕ). choose_of (run.at t c.args.test.node) (run.at t c.args.yes.node) (run.at t n)) c.bus-2.ensures.node)
