-- The bits of a memory whose addresses have at most 32 bits.
use Rattle.std.proofs.Common.{ℕ, ◌≤◌, ◌*◌, ◌^◌, ◌%◌, arith}
use Rattle.std.proofs.Math.Nat.{mod-le, mul-le-mul, pow-le-pow_right}

pub memory_small : (bits modulus width : ℕ) → bits ≤ 32 → width ≤ 255 → (1 * 2 ^ bits % modulus) * width ≤ 1099511627776
memory_small bits modulus width few narrow =
    let power : 2 ^ bits ≤ 2 ^ 32 = pow-le-pow_right {n = 2} (omega arith) few in
    let part : 1 * 2 ^ bits % modulus ≤ 1 * 2 ^ bits = mod-le (1 * 2 ^ bits) modulus in
    let low : 1 * 2 ^ bits % modulus ≤ 4294967296 = omega (arith, power, part) in
    let most : (1 * 2 ^ bits % modulus) * width ≤ 4294967296 * 255 = mul-le-mul low narrow in
    omega (arith, most)
