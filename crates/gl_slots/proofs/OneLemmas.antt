-- One of some lines, and one of some keys.
use Rattle.std.proofs.Common.{◌≡◌, ℕ, zero, suc, ◌<◌, List, [], ◌∷◌, Some, Bool, true, false, sym, subst, arith, inl, inr, ◌⊎◌, eqb-true, eq-eqb}
use Rattle.std.specs.Prelude.{slice_get, nat_eq}
use Rattle.std.specs.List.{list_any}
use Rattle.std.proofs.lemmas.Bool.{cases_lt}
use Rattle.gl_bits.proofs.Bools.{by_cases, neither_parts, or_cases, or_left, or_right}
use Rattle.gl_wire_registers.specs.Lines.{any_to}

-- where one of some lines is 1, or none
pub any_there : (n : ℕ) (f : ℕ → Bool) → any_to n f ≡ true → (k : ℕ) × (k < n) × (f k ≡ true)
any_there zero f h = absurd (cc)
any_there (suc n) f h = elim (or_cases (any_to n f) (f n) h) [
  | inl a ↦ (let p = any_there n f a in (p.0, omega (arith, p.1), p.2))
  | inr b ↦ (n, omega arith, b)
]

pub any_here : (n : ℕ) (f : ℕ → Bool) (k : ℕ) → k < n → f k ≡ true → any_to n f ≡ true
any_here zero f k l h = absurd (omega (arith, l))
any_here (suc n) f k l h = by_cases (nat_eq k n) (λ e. or_right (any_to n f) (f n) (subst (λ i. f i ≡ true) (eqb-true k n e) h))
    (λ e. or_left (any_to n f) (f n) (any_here n f k (other k n l e) h))
  where
    other : (k n : ℕ) → k < suc n → nat_eq k n ≡ false → k < n
    other k n l e = elim (near k n l) [ inl q ↦ q | inr q ↦ (let z = eq-eqb k n q in absurd (cc)) ]
      where
        near : (k n : ℕ) → k < suc n → (k < n) ⊎ (k ≡ n)
        near k n l = elim (cases_lt k n) [ inl a ↦ inl a | inr a ↦ inr (omega (arith, l, a)) ]

-- a key that is not listed stands at no place
pub not_listed : (ks : List ℕ) (y j : ℕ) → list_any (nat_eq y) ks ≡ false → slice_get ks j ≡ Some y → ⊥
not_listed [] y j none at = absurd (cc)
not_listed (x ∷ ks) y zero none at = let e : x ≡ y = cc in let own = eq-eqb y x (sym e) in let p = neither_parts (nat_eq y x) (list_any (nat_eq y) ks) none in let q = p.0 in absurd (cc)
not_listed (x ∷ ks) y (suc j) none at = not_listed ks y j (neither_parts (nat_eq y x) (list_any (nat_eq y) ks) none).1 at
