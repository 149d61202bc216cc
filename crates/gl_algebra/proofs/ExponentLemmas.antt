-- The least exponent of a depth covers it, and is no greater than any other that does.
use Rattle.std.proofs.Common.{◌≡◌, ℕ, zero, suc, ◌+◌, ◌^◌, ◌<◌, ◌≤◌, Bool, true, false, refl, ap, arith}
use Rattle.std.specs.Prelude.{nat_le, if◌then◌else◌}
use Rattle.std.proofs.Math.Pow.{pow-lt}
use Rattle.std.proofs.lemmas.Bool.{leb-false, leb-true}
use Rattle.gl_algebra.specs.Cost.{least_exponent}

below_power : (n : ℕ) → n < 2 ^ n
below_power zero = omega arith
below_power (suc n) = let h = below_power n in let l = pow-lt {i = n} {j = suc n} (omega arith) in omega (arith, h, l)

pub exponent_covers : (more exponent depth : ℕ) → depth ≤ more + exponent → depth ≤ 2 ^ least_exponent more exponent depth
exponent_covers zero e depth h = let l = below_power e in omega (arith, l, h)
exponent_covers (suc more) e depth h = by (nat_le depth (2 ^ e)) refl (exponent_covers more (suc e) depth (omega (arith, h)))
  where
    by : (b : Bool) → nat_le depth (2 ^ e) ≡ b → depth ≤ 2 ^ least_exponent more (suc e) depth → depth ≤ 2 ^ (if b then e else least_exponent more (suc e) depth)
    by true p rest = leb-true depth (2 ^ e) p
    by false p rest = rest

pub few_exponents : (n more exponent depth : ℕ) → exponent ≤ n → depth ≤ 2 ^ n → least_exponent more exponent depth ≤ n
few_exponents n zero e depth l h = l
few_exponents n (suc more) e depth l h = by (nat_le depth (2 ^ e)) refl (few_exponents n more (suc e) depth)
  where
    by : (b : Bool) → nat_le depth (2 ^ e) ≡ b → (suc e ≤ n → depth ≤ 2 ^ n → least_exponent more (suc e) depth ≤ n) → (if b then e else least_exponent more (suc e) depth) ≤ n
    by true p rest = l
    by false p rest = rest (omega (arith, l, apart)) h
      where
        apart : e ≡ n → ⊥
        apart same = let over = leb-false depth (2 ^ e) p in let at : 2 ^ e ≡ 2 ^ n = ap (λ (k : ℕ). 2 ^ k) same in omega (arith, over, at, h)
