use Rattle.std.proofs.Common.{◌≡◌, Some, sym, subst}
use Rattle.gl_net.specs.Net.{Net, Words, open_at, open_in}
use Rattle.gl_net.specs.WellFormed.{IsDrive}
use Rattle.gl_net.proofs.Drive.{memory_there, memory_fits}
use Rattle.gl_net.proofs.builder.NetBuilder.set_drive.Goals as goal

pub write_drive-requires : goal.write_drive-requires
unfolding open_in
write_drive-requires c =
    let h = subst (λ (v : Net). open_at v c.args.store.node ≡ Some (Words c.args.store.address_bits c.args.store.width)) (sym c.self.view_is) c.requires.undriven in
    (c.args.store.address_bits, c.args.store.width, memory_there _ _ _ h)

pub invariant_of-self : goal.invariant_of-self
unfolding open_in
invariant_of-self c =
    let h = subst (λ (v : Net). open_at v c.args.store.node ≡ Some (Words c.args.store.address_bits c.args.store.width)) (sym c.self.view_is) c.requires.undriven in
    let d = subst (λ (v : Net). IsDrive v c.args.store.address_bits c.args.store.width c.args.drive) (sym c.self.view_is) c.requires.drive in
    let e = memory_there _ _ _ h in
    rw (c.write_drive.ensures c.args.store.address_bits c.args.store.width e) (memory_fits _ _ _ _ _ _ _ e d c.self.invariant)
