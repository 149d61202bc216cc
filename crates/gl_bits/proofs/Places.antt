-- Plain facts about the first place of a list that passes a test.
use Rattle.std.proofs.Common.{◌≡◌, ℕ, suc, ◌+◌, inl, inr, Bool, true, false, cond, not, List, ◌∷◌, length, Some, None, refl, ap, arith}
use Rattle.std.specs.Prelude.{nat_lt, option_map, position, if◌then◌else◌}
use Rattle.std.specs.List.{position_or_len}
use Rattle.std.proofs.lemmas.Bool.{cases_lt, le-ltb, lt-ltb}

later : (k n : ℕ) → cond (nat_lt (1 + k) (suc n)) (Some (1 + k)) None ≡ option_map (λ m. m + 1) (cond (nat_lt k n) (Some k) None)
later k n = elim (cases_lt k n) [
  | inl h ↦ rw (lt-ltb (1 + k) (suc n) (omega (arith, h)), lt-ltb k n h) (ap Some (let e : 1 + k ≡ k + 1 = omega arith in e))
  | inr h ↦ rw (le-ltb (1 + k) (suc n) (omega (arith, h)), le-ltb k n h) refl
]

-- the first place of a list is that of its head, or one behind that of its rest
pub place_step : {X : Type 0} (p : X → Bool) (x : X) (xs : List X) → position p (x ∷ xs) ≡ (if p x then Some 0 else option_map (λ m. m + 1) (position p xs))
place_step p x xs = by (p x)
  where
    by : (b : Bool) → cond (nat_lt (cond (not b) (1 + position_or_len p xs) 0) (suc (length xs))) (Some (cond (not b) (1 + position_or_len p xs) 0)) None ≡ (if b then Some 0 else option_map (λ m. m + 1) (position p xs))
    by true = rw (lt-ltb 0 (suc (length xs)) (omega arith)) refl
    by false = later (position_or_len p xs) (length xs)
