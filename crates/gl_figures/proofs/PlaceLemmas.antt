-- What stands at the places of a list after one is written.
use Rattle.std.proofs.Common.{◌≡◌, ◌≢◌, ℕ, zero, suc, ◌<◌, List, [], ◌∷◌, length, Some, slice_get, refl, arith}
use Rattle.std.proofs.Math.ListN.{set}

pub get-written : {A : Type 0} (xs : List A) (i : ℕ) (x : A) → i < length xs → slice_get (set xs i x) i ≡ Some x
get-written [] i x h = absurd (omega arith)
get-written (y ∷ xs) zero x h = refl
get-written (y ∷ xs) (suc i) x h = get-written xs i x (omega arith)

pub get-other : {A : Type 0} (xs : List A) (i k : ℕ) (x : A) → k ≢ i → slice_get (set xs i x) k ≡ slice_get xs k
get-other [] i k x other = refl
get-other (y ∷ xs) zero zero x other = absurd (other refl)
get-other (y ∷ xs) zero (suc k) x other = refl
get-other (y ∷ xs) (suc i) zero x other = refl
get-other (y ∷ xs) (suc i) (suc k) x other = get-other xs i k x (omega arith)
