use Rattle.std.proofs.Common.{length, sym, subst, is_ok}
use Rattle.gl_net.specs.Net.{Net}
use Rattle.gl_net.specs.WellFormed.{NodeFits}
use Rattle.gl_net.proofs.Growth.{push_fits}
use Rattle.gl_net.proofs.builder.NetBuilder.push.Goals as goal

pub invariant_of-self : goal.invariant_of-self
invariant_of-self c =
    let f = subst (λ (v : Net). NodeFits v (length v.nodes) c.args.node) (sym c.self.view_is) c.requires in
    rw c.push.ensures.items (push_fits (is_ok c.push.result) _ _ _ c.args.node c.self.invariant f)
