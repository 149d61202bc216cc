-- Products of the turns of a flush.
use Rattle.std.proofs.Common.{◌≡◌, ℕ, suc, ◌+◌, ◌-◌, ◌*◌, ◌<◌, ◌≤◌, ap, ◌∙◌, arith, inl, inr, mul-le-mul_right}
use Rattle.std.proofs.lemmas.Bool.{cases_lt}

-- of two products the lesser has the lesser factor
pub mul_below : (d q n : ℕ) → d * n < q * n → d < q
mul_below d q n h = elim (cases_lt d q) [ inl l ↦ l | inr l ↦ absurd (let z : q * n ≤ d * n = mul-le-mul_right n l in omega (arith, z, h)) ]

-- the turns after the first one, and one more
pub all_turns : (count n : ℕ) → 1 ≤ count → (count - 1) * n + n ≡ count * n
all_turns count n some =
    let e : suc (count - 1) ≡ count = omega (arith, some) in
    let d : (count - 1) * n + n ≡ suc (count - 1) * n = omega arith in
    d ∙ ap (λ z. z * n) e
