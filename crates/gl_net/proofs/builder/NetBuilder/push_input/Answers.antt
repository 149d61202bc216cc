use Rattle.std.proofs.Common.{refl, rules}
use Rattle.gl_net.proofs.Ports.{input_keeps_form}
use Rattle.gl_net.proofs.builder.NetBuilder.push_input.Goals as goal

pub invariant_of-self-2 : goal.invariant_of-self-2
invariant_of-self-2 c =
    input_keeps_form (record { nodes = c.self.inside.nodes.items; ports = c.self.inside.ports.items; name = c.self.inside.name }) _ c.args.name c.args.width c.len-node.result
    (record { nodes = c.in_ok-push_both.ensures.nodes; number = search rules; ports = c.in_ok-push_both.ensures.ports; name = refl })
    c.self.invariant c.requires
