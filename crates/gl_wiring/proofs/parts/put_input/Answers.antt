use Rattle.std.proofs.Common.{Some, ap, ◌∙◌}
use Rattle.gl_net.specs.declared.node.Direction.TheVariants.{In}
use Rattle.gl_net.specs.Net.{Value}
use Rattle.gl_wiring.proofs.Shapes.{puts_one, port_last}
use Rattle.gl_wiring.proofs.parts.put_input.Goals as goal

pub returns-clause-ports : goal.returns-clause-ports
returns-clause-ports c =
    let e = c.in_ok-bus.ensures in
    puts_one c.args.net.now c.input.new.self In c.args.name.now c.in_ok-bus.bus.node c.args.width e.grows.shapes e.ports (e.bus.there ∙ ap (λ w. Some (Value w)) e.width)

pub returns-clause-port : goal.returns-clause-port
returns-clause-port c = port_last c.args.net.now c.input.new.self In c.args.name.now c.in_ok-bus.bus.node c.in_ok-bus.ensures.ports
