use Rattle.std.proofs.Common.{refl}
use Rattle.gl_net.proofs.Ports.{name_keeps_form}
use Rattle.gl_net.proofs.builder.NetBuilder.set_name.Goals as goal

pub invariant_of-self : goal.invariant_of-self
invariant_of-self c = name_keeps_form (record { nodes = c.self.inside.nodes.items; ports = c.self.inside.ports.items; name = c.self.inside.name }) _ c.args.name (record { nodes = refl; ports = refl; name = refl }) c.self.invariant
