-- An address of a queue's memories has enough bits for its places.
use Rattle.std.proofs.Common.{◌≡◌, ℕ, zero, suc, ◌^◌, ◌≤◌, Bool, true, false, refl, ap, arith}
use Rattle.std.specs.Prelude.{nat_le, if◌then◌else◌}
use Rattle.std.proofs.lemmas.Bool.{leb-false}
use Rattle.gl_algebra.specs.Rings.{least_exponent, ring}
use Rattle.gl_algebra.proofs.ExponentLemmas.{exponent_covers}
use Rattle.gl_queue.specs.Costs.{address_bits}

pub address_covers : (depth : ℕ) → depth ≤ 2 ^ address_bits depth
unfolding address_bits
address_covers depth = exponent_covers depth 1 depth (omega arith)

-- the words of a queue's memories are those of a ring
pub ring_words : (depth : ℕ) → 2 ^ address_bits depth ≡ ring depth
unfolding address_bits ring
ring_words depth = refl

pub address_is : (depth bits : ℕ) → bits ≡ least_exponent depth 1 depth → bits ≡ address_bits depth
unfolding address_bits
address_is depth bits h = h

-- an address has at most 32 bits
low_exponent : (more exponent depth : ℕ) → exponent ≤ 32 → depth ≤ 2 ^ 32 → least_exponent more exponent depth ≤ 32
low_exponent zero e depth l h = l
low_exponent (suc more) e depth l h = by (nat_le depth (2 ^ e)) refl (low_exponent more (suc e) depth)
  where
    by : (b : Bool) → nat_le depth (2 ^ e) ≡ b → (suc e ≤ 32 → depth ≤ 2 ^ 32 → least_exponent more (suc e) depth ≤ 32) → (if b then e else least_exponent more (suc e) depth) ≤ 32
    by true p rest = l
    by false p rest = rest (omega (arith, l, apart)) h
      where
        apart : e ≡ 32 → ⊥
        apart same = let over = leb-false depth (2 ^ e) p in let at : 2 ^ e ≡ 2 ^ 32 = ap (λ (n : ℕ). 2 ^ n) same in omega (arith, over, at, h)

pub address_low : (depth : ℕ) → depth ≤ 2 ^ 32 → address_bits depth ≤ 32
unfolding address_bits
address_low depth h = low_exponent depth 1 depth (omega arith) h
