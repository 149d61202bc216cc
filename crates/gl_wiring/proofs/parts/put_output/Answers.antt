use Rattle.gl_net.specs.declared.node.Direction.TheVariants.{Out}
use Rattle.gl_net.specs.Net.{Value}
use Rattle.gl_wiring.proofs.Shapes.{puts_one, port_last}
use Rattle.gl_wiring.proofs.parts.put_output.Goals as goal

pub returns-clause-ports : goal.returns-clause-ports
returns-clause-ports c =
    let e = c.in_ok-output.ensures in
    puts_one c.args.net.now c.output.new.self Out c.args.name.now c.args.value.node c.args.value.width e.grows.shapes e.ports (e.grows.shapes c.args.value.node (Value c.args.value.width) c.requires.there)

pub returns-clause-port : goal.returns-clause-port
returns-clause-port c = port_last c.args.net.now c.output.new.self Out c.args.name.now c.args.value.node c.in_ok-output.ensures.ports
