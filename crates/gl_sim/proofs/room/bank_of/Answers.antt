use Rattle.std.proofs.Common.{◌≡◌, ◌^◌, ◌*◌, ◌%◌, refl, arith}
use Rattle.std.proofs.lemmas.Nat.{one_shl}
use Rattle.gl_sim.proofs.room.bank_of.Goals as goal

pub overflow_shl-address_bits : goal.overflow_shl-address_bits
overflow_shl-address_bits c =
    let bits = c.requires c.in-Memory.address_bits (rw c.in-Memory.is refl) in
    omega arith

pub returns-in-Memory : goal.returns-in-Memory
returns-in-Memory c =
    let bits = c.requires c.in-Memory.address_bits (rw c.in-Memory.is refl) in
    let whole : 1 * 2 ^ c.in-Memory.address_bits % 2 ^ 64 ≡ 2 ^ c.in-Memory.address_bits = one_shl c.in-Memory.address_bits 64 (omega arith) in
    rw (c.in-Memory.is, ← whole) c.new.ensures
