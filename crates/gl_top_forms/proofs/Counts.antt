-- How many elements a list has, by which places have one.
use Rattle.std.proofs.Common.{◌≡◌, ℕ, zero, suc, ◌-◌, ◌<◌, ◌≤◌, ◌∙◌, Bool, true, false, not, List, [], ◌∷◌, length, refl, sym, ap, arith, eq-eqb, ne_eqb}
use Rattle.std.specs.Prelude.{slice_get, is_some, ◌==◌, ◌&&◌, ◌||◌}
use Rattle.gl_bits.proofs.Bools.{or_none}

or_true : (a : Bool) → (a || true) ≡ true
or_true true = refl
or_true false = refl

past : {X : Type 0} (xs : List X) (n : ℕ) → is_some (slice_get xs n) ≡ false → length xs ≤ n
past [] n e = omega arith
past (x ∷ xs) zero e = absurd cc
past (x ∷ xs) (suc n) e = let le = past xs n e in omega arith

below : {X : Type 0} (xs : List X) (n : ℕ) → is_some (slice_get xs n) ≡ true → n < length xs
below [] n e = absurd cc
below (x ∷ xs) zero e = omega arith
below (x ∷ xs) (suc n) e = let lt = below xs n e in omega arith

pub counted : {X : Type 0} (xs : List X) (n : ℕ)
    → (length xs == n) ≡ (not (is_some (slice_get xs n)) && ((n == 0) || is_some (slice_get xs (n - 1))))
counted xs n = by (is_some (slice_get xs n)) (is_some (slice_get xs (n - 1))) refl refl
  where
    none : (m : ℕ) → length xs ≤ m → length xs ≤ m - 1 → (length xs == m) ≡ (m == 0)
    none zero le less = let e : length xs ≡ 0 = omega arith in ap (λ k. k == 0) e
    none (suc m) le less =
        let short = ne_eqb (length xs) (suc m) (λ e. omega (arith, e)) in
        let some = ne_eqb (suc m) 0 (λ e. omega (arith, e)) in
        short ∙ sym some

    by : (a b : Bool) → is_some (slice_get xs n) ≡ a → is_some (slice_get xs (n - 1)) ≡ b
        → (length xs == n) ≡ (not (is_some (slice_get xs n)) && ((n == 0) || is_some (slice_get xs (n - 1))))
    by true b p q = let lt = below xs n p in rw p (ne_eqb (length xs) n (λ e. omega (arith, e)))
    by false true p q =
        let le = past xs n p in
        let lt = below xs (n - 1) q in
        let e = eq-eqb (length xs) n (omega arith) in
        rw (p, q, e) (sym (or_true (n == 0)))
    by false false p q = rw (p, q) (none n (past xs n p) (past xs (n - 1) q) ∙ sym (or_none (n == 0)))
