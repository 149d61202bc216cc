use Rattle.std.proofs.Common.{◌≡◌, ◌≤◌, ◌^◌, ◌*◌, ◌%◌, refl, ap, arith, rules}
use Rattle.std.proofs.lemmas.Nat.{one_shl}
use Rattle.gl_bits.proofs.Memories.{memory_small}
use Rattle.gl_verilog_check.proofs.costing.memory_bits.Goals as goal

pub overflow_shl-result : goal.overflow_shl-result
overflow_shl-result c =
    let bits = c.requires.1 c.in-Memory.address_bits (rw c.in-Memory.is refl) in
    omega arith

pub overflow_mul-result : goal.overflow_mul-result
overflow_mul-result c =
    let bits = c.requires.1 c.in-Memory.address_bits (rw c.in-Memory.is refl) in
    let narrow : c.from.result ≤ 255 = search rules in
    let small = memory_small c.in-Memory.address_bits 340282366920938463463374607431768211456 c.from.result bits.1 narrow in
    omega (arith, small)

pub returns-in-Memory-clause-value : goal.returns-in-Memory-clause-value
returns-in-Memory-clause-value c =
    let bits = c.requires.1 c.in-Memory.address_bits (rw c.in-Memory.is refl) in
    let whole : 1 * 2 ^ c.in-Memory.address_bits % 2 ^ 128 ≡ 2 ^ c.in-Memory.address_bits = one_shl c.in-Memory.address_bits 128 (omega arith) in
    rw (c.in-Memory.is, whole) (ap (λ x. 2 ^ c.in-Memory.address_bits * x) c.from.ensures)

pub returns-in-Memory-clause-small : goal.returns-in-Memory-clause-small
returns-in-Memory-clause-small c =
    let bits = c.requires.1 c.in-Memory.address_bits (rw c.in-Memory.is refl) in
    let narrow : c.from.result ≤ 255 = search rules in
    memory_small c.in-Memory.address_bits 340282366920938463463374607431768211456 c.from.result bits.1 narrow
