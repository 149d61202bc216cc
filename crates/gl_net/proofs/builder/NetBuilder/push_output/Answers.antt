use Rattle.std.proofs.Common.{refl, sym, subst}
use Rattle.gl_net.specs.declared.node.Direction.TheVariants.{Out}
use Rattle.gl_net.specs.Net.{Net, IsBus}
use Rattle.gl_net.proofs.Ports.{port_keeps_form}
use Rattle.gl_net.proofs.builder.NetBuilder.push_output.Goals as goal

pub invariant_of-self-2 : goal.invariant_of-self-2
invariant_of-self-2 c =
    let b = subst (λ (v : Net). IsBus v c.args.value) (sym c.self.view_is) c.requires in
    port_keeps_form _ _ Out c.args.name c.args.value.node
    (record { nodes = refl; ports = c.in_ok-push_port.ensures.ok; name = refl }) c.self.invariant (c.args.value.width, b.there)
