-- What keeps a queue from being passed.
use Rattle.std.proofs.Common.{◌≡◌, ℕ, ◌+◌, ◌≤◌, List, [], ◌∷◌, length, Option, Some, None, Bool, true, false, refl, ap, arith}
use Rattle.std.specs.Prelude.{option_to_list, is_some, not, ◌&&◌, if◌then◌else◌, nat_eq}
use Rattle.std.proofs.lemmas.Bool.{eqb-true}
use Rattle.gl_queue.specs.Queue.{oldest, behind}

-- a queue is not passed where what it then holds fits
pub not_passed : {A : Type 0} (depth : ℕ) (push : Option A) (xs : List A) (go : Bool) → length (if go then behind xs else xs) + length (option_to_list push) ≤ depth → is_some push && nat_eq (length xs) depth && not (go && is_some (oldest xs)) ≡ false
not_passed depth None xs go l = refl
not_passed {A = A} depth (Some r) xs go l = by (nat_eq (length xs) depth) refl xs go refl l
  where
    by : (e : Bool) → nat_eq (length xs) depth ≡ e → (ys : List A) (g : Bool) → ys ≡ xs → length (if g then behind ys else ys) + 1 ≤ depth → nat_eq (length xs) depth && not (g && is_some (oldest ys)) ≡ false
    by false p ys g q m = rw p refl
    by true p [] true q m = absurd (omega (arith, eqb-true (length xs) depth p, m, ap length q))
    by true p (y ∷ ys) true q m = rw p refl
    by true p ys false q m = absurd (omega (arith, eqb-true (length xs) depth p, m, ap length q))
