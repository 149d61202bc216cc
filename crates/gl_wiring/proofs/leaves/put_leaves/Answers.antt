use Rattle.std.proofs.Common.{List, ◌∷◌, [], ◌++◌, map, ap, sym, subst, ◌∙◌}
use Rattle.gl_net.specs.Net.{IsBit, IsPort}
use Rattle.gl_net.specs.declared.node.Direction.TheVariants.{In}
use Rattle.gl_schema.specs.Ports.{rst, eos}
use Rattle.gl_schema.specs.declared.schema.Stream.{Stream}
use Rattle.gl_wire.proofs.GateLemmas.{bit_of}
use Rattle.gl_wiring.specs.Emitted.{AreSources, Puts}
use Rattle.gl_wiring.specs.EmittedPorts.{input, streams_inputs}
use Rattle.gl_wiring.specs.StreamWires.{AreStreamWires, wire_from}
use Rattle.gl_wiring.proofs.Shapes.{puts_then}
use Rattle.gl_wiring.proofs.StreamLemmas.{sources_stay, wires_made}
use Rattle.gl_wiring.proofs.leaves.put_leaves.Goals as goal

pub returns-clause-ports : goal.returns-clause-ports
unfolding rst eos
returns-clause-ports c =
    let n0 = c.args.net.now in
    let n1 = c.put_input.new.net in
    let n2 = c.put_sources.new.net in
    let n3 = c.put_input-2.new.net in
    let ss = c.args.schema.now.streams in
    let sources : Puts n1 n2 (streams_inputs ss) = subst (λ (x : List Stream). Puts n1 n2 (streams_inputs x)) c.as_slice-streams.ensures c.in_ok-sources.ensures.ports in
    puts_then n0 n1 n3 (input rst 1 ∷ []) (streams_inputs ss ++ input eos 1 ∷ []) c.in_ok-put_input.ensures.ports
    (puts_then n1 n2 n3 (streams_inputs ss) (input eos 1 ∷ []) sources c.in_ok-end.ensures.ports)

pub returns-clause-wires : goal.returns-clause-wires
unfolding eos
returns-clause-wires c =
    let n2 = c.put_sources.new.net in
    let n3 = c.put_input-2.new.net in
    let ss = c.args.schema.now.streams in
    let ps = c.in_ok-sources.sources.items in
    let end = c.in_ok-end.end in
    let bit = c.bit.result in
    let sources : AreSources n2 ss ps = subst (λ (x : List Stream). AreSources n2 x ps) c.as_slice-streams.ensures c.in_ok-sources.ensures.sources in
    let is : IsBit n3 bit = bit_of n3 end bit c.in_ok-end.ensures.bus c.in_ok-end.ensures.width c.bit.ensures in
    let port : IsPort n3 In eos bit.node = subst (IsPort n3 In eos) (sym c.bit.ensures) c.in_ok-end.ensures.port in
    subst (AreStreamWires n3 ss) (sym (c.in_ok-wires.ensures ∙ ap (map (wire_from bit)) c.deref.ensures.value))
    (wires_made n3 ss ps bit is port (sources_stay n2 n3 ss ps c.in_ok-end.ensures.extends sources))
