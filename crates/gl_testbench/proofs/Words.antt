-- Numbers of a row by their places.
use Rattle.std.proofs.Common.{◌≡◌, ℕ, zero, suc, List, [], ◌∷◌, Some, None, refl}
use Rattle.std.specs.Prelude.{slice_get, slice_index}

-- a number that there is
pub number_some : (row : List ℕ) (at n : ℕ) → Some n ≡ slice_get row at → n ≡ slice_index row at
number_some [] at n e = absurd cc
number_some (x ∷ row) zero n e = cc
number_some (x ∷ row) (suc at) n e = number_some row at n e

-- there is 0 where there is none
pub number_none : (row : List ℕ) (at : ℕ) → None ≡ slice_get row at → 0 ≡ slice_index row at
number_none [] at e = refl
number_none (x ∷ row) zero e = absurd cc
number_none (x ∷ row) (suc at) e = number_none row at e

pub ruleset number_steps = (number_some, number_none)
