-- A list without what would stand behind its end is the list.
use Rattle.std.proofs.Common.{◌≡◌, ℕ, zero, suc, ◌≤◌, List, [], ◌∷◌, length, refl, ap, arith}
use Rattle.std.specs.Prelude.{remove}

pub nothing_there : {A : Type 0} (xs : List A) (i : ℕ) → length xs ≤ i → remove xs i ≡ xs
nothing_there [] zero h = refl
nothing_there [] (suc i) h = refl
nothing_there (x ∷ xs) zero h = absurd (omega (arith, h))
nothing_there (x ∷ xs) (suc i) h = ap (λ l. x ∷ l) (nothing_there xs i (omega (arith, h)))
