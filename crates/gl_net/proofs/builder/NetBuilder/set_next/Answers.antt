use Rattle.std.proofs.Common.{◌≡◌, Some, sym, subst}
use Rattle.gl_net.specs.Net.{Net, Value, open_at, open_in, IsBus}
use Rattle.gl_net.proofs.Drive.{register_there, register_fits}
use Rattle.gl_net.proofs.builder.NetBuilder.set_next.Goals as goal

pub write_next-requires : goal.write_next-requires
unfolding open_in
write_next-requires c =
    let h = subst (λ (v : Net). open_at v c.args.register.node ≡ Some (Value c.args.register.width)) (sym c.self.view_is) c.requires.undriven in
    let r = register_there _ c.args.register.width h in
    (c.args.register.width, r.0, r.1)

pub invariant_of-self : goal.invariant_of-self
unfolding open_in
invariant_of-self c =
    let h = subst (λ (v : Net). open_at v c.args.register.node ≡ Some (Value c.args.register.width)) (sym c.self.view_is) c.requires.undriven in
    let b = subst (λ (v : Net). IsBus v c.args.next) (sym c.self.view_is) c.requires.next in
    let r = register_there _ c.args.register.width h in
    rw (c.write_next.ensures c.args.register.width r.0 r.1) (register_fits _ _ _ _ _ r.0 _ r.1 b c.requires.widths c.self.invariant)
