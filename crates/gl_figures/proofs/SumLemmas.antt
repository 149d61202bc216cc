-- Sums over the numbers below a limit.
use Rattle.std.proofs.Common.{◌≡◌, ℕ, zero, suc, ◌+◌, ◌≤◌, Bool, true, false, inl, inr, List, [], ◌∷◌, refl, sym, ap, arith}
use Rattle.std.specs.Prelude.{◌||◌, nat_eq, if◌then◌else◌}
use Rattle.std.specs.List.{list_any, sum_by}
use Rattle.std.proofs.lemmas.Bool.{cases_lt, eqb-false, eqb-true, ne_eqb}
use Rattle.std.proofs.lemmas.List.Sums.{sum_by-cons}
use Rattle.gl_bits.proofs.Bools.{by_cases}
use Rattle.gl_figures.specs.Reach.{sum_to, sum_where}

pub sum-le : (f g : ℕ → ℕ) → ((id : ℕ) → f id ≤ g id) → (limit : ℕ) → sum_to f limit ≤ sum_to g limit
sum-le f g h zero = omega arith
sum-le f g h (suc limit) = omega (arith, h limit, sum-le f g h limit)

-- two tests that agree
pub sum-same : (own : ℕ → ℕ) (p q : ℕ → Bool) → ((id : ℕ) → p id ≡ q id) → (limit : ℕ) → sum_where p own limit ≡ sum_where q own limit
sum-same own p q h zero = refl
sum-same own p q h (suc limit) = rw (h limit, sum-same own p q h limit)

pub sum-add : (f g : ℕ → ℕ) (limit : ℕ) → sum_to (λ id. f id + g id) limit ≡ sum_to f limit + sum_to g limit
sum-add f g zero = refl
sum-add f g (suc limit) = omega (arith, sum-add f g limit)

pub sum-less : (f : ℕ → ℕ) (limit more : ℕ) → limit ≤ more → sum_to f limit ≤ sum_to f more
sum-less f limit zero h = let none : limit ≡ 0 = omega (arith, h) in rw none (omega arith)
sum-less f limit (suc more) h =
    by_cases (nat_eq limit (suc more))
    (λ e. let same : limit ≡ suc more = eqb-true limit (suc more) e in rw same (omega arith))
    (λ e. let other = eqb-false limit (suc more) e in
    let before : limit ≤ more = elim (cases_lt limit (suc more)) [
      | inl b ↦ omega (arith, b)
      | inr b ↦ absurd (other (omega (arith, b, h)))
    ] in
    omega (arith, sum-less f limit more before))

-- no number is behind its place
pub sum-none : (own : ℕ → ℕ) (k limit : ℕ) → limit ≤ k → sum_where (nat_eq k) own limit ≡ 0
sum-none own k zero h = refl
sum-none own k (suc limit) h =
    let other : nat_eq k limit ≡ false = ne_eqb k limit (λ e. omega (arith, h, e)) in
    rw (other, sum-none own k limit (omega (arith, h)))

pub sum-one : (own : ℕ → ℕ) (k limit : ℕ) → sum_where (nat_eq k) own limit ≤ own k
sum-one own k zero = omega arith
sum-one own k (suc limit) =
    by_cases (nat_eq k limit)
    (λ e. let same : k ≡ limit = eqb-true k limit e in
    let none = sum-none own k limit (omega (arith, same)) in
    let value : own limit ≡ own k = ap own (sym same) in
    rw e (omega (arith, none, value)))
    (λ e. rw e (omega (arith, sum-one own k limit)))

-- what passes one of two tests
pub either_at_most : (a b : Bool) (n : ℕ) → (if a || b then n else 0) ≤ (if a then n else 0) + (if b then n else 0)
either_at_most true b n = omega arith
either_at_most false b n = omega arith

pub sum-either : (p q : ℕ → Bool) (own : ℕ → ℕ) (limit : ℕ)
    → sum_where (λ id. p id || q id) own limit ≤ sum_where p own limit + sum_where q own limit
sum-either p q own limit =
    let less = sum-le (λ id. if p id || q id then own id else 0) (λ id. (if p id then own id else 0) + (if q id then own id else 0))
    (λ id. either_at_most (p id) (q id) (own id)) limit in
    let parts = sum-add (λ id. if p id then own id else 0) (λ id. if q id then own id else 0) limit in
    omega (arith, less, parts)

pub sum-nothing : (own : ℕ → ℕ) (limit : ℕ) → sum_where (λ id. false) own limit ≡ 0
sum-nothing own zero = refl
sum-nothing own (suc limit) = omega (arith, sum-nothing own limit)

-- what passes one of some tests
pub sum-any : (test : ℕ → ℕ → Bool) (own : ℕ → ℕ) (limit : ℕ) (xs : List ℕ)
    → sum_where (λ id. list_any (λ x. test x id) xs) own limit ≤ sum_by (λ x. sum_where (test x) own limit) xs
sum-any test own limit [] = omega (arith, sum-nothing own limit)
sum-any test own limit (x ∷ xs) =
    let first = sum-either (test x) (λ id. list_any (λ y. test y id) xs) own limit in
    rw (sum_by-cons (λ y. sum_where (test y) own limit) x xs) (omega (arith, first, sum-any test own limit xs))
