use Rattle.std.proofs.Common.{sym, subst, ap, ◌∙◌}
use Rattle.gl_net.specs.Net.{IsPort, held_ports}
use Rattle.gl_net.specs.declared.node.Direction.TheVariants.{In}
use Rattle.gl_schema.specs.Ports.{tick}
use Rattle.gl_wire.proofs.GateLemmas.{bit_of}
use Rattle.gl_wiring.proofs.WordLemmas.{not_held_last, tick_not_held}
use Rattle.gl_wiring.proofs.leaves.put_tick.Goals as goal

pub returns-clause-ports : goal.returns-clause-ports
unfolding tick
returns-clause-ports c = rw c.if-not-ticks.false c.in_ok-tick.ensures.ports

pub returns-clause-line : goal.returns-clause-line
unfolding tick
returns-clause-line c =
    let net = c.put_input.new.net in
    let bus = c.in_ok-tick.tick in
    rw c.if-not-ticks.false (
      bit_of net bus c.bit.result c.in_ok-tick.ensures.bus c.in_ok-tick.ensures.width c.bit.ensures,
      subst (IsPort net In tick) (sym c.bit.ensures) c.in_ok-tick.ensures.port,
    )

pub returns-clause-none : goal.returns-clause-none
unfolding tick
returns-clause-none c = λ none.
    ap held_ports c.in_ok-tick.ensures.last ∙ not_held_last c.args.net.now.ports _ (tick_not_held c.in_ok-tick.tick.node) ∙ none
