-- Plain facts about numbers.
use Rattle.std.proofs.Common.{◌≡◌, ℕ, zero, suc, ◌+◌, ◌*◌, ◌≤◌, false, arith}
use Rattle.std.specs.Prelude.{nat_eq}
use Rattle.std.proofs.lemmas.Bool.{ne_eqb}

-- once is no more than several times
pub le_times : (c x : ℕ) → 1 ≤ c → x ≤ c * x
le_times zero x some = absurd (omega (arith, some))
le_times (suc n) x some = let e : suc n * x ≡ x + n * x = omega arith in omega (arith, e)

pub not_zero : (n : ℕ) → nat_eq (suc n) 0 ≡ false
not_zero n = ne_eqb (suc n) 0 (λ q. omega (arith, q))
