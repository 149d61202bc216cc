-- Places in lists.
use Rattle.std.proofs.Common.{◌≡◌, ◌≤◌, Bool, List, [], ◌∷◌, length, None, arith, nat_lt}
use Rattle.std.specs.Prelude.{position}
use Rattle.std.specs.List.{position_or_len}
use Rattle.std.proofs.Math.Numerals.{one-add}
use Rattle.std.proofs.lemmas.Bool.{ltb-false}
use Rattle.gl_bits.proofs.Bools.{by_cases}

pub place-le : {K : Type 0} (p : K → Bool) (xs : List K) → position_or_len p xs ≤ length xs
place-le p [] = omega arith
place-le p (x ∷ xs) = let rest = place-le p xs in by_cases (p x) (λ e. rw e (omega arith)) (λ e. rw (e, one-add) (omega arith))

pub place-none : {K : Type 0} (p : K → Bool) (xs : List K) → position p xs ≡ None → position_or_len p xs ≡ length xs
place-none p xs h =
    let below = place-le p xs in
    by_cases (nat_lt (position_or_len p xs) (length xs))
    (λ e. absurd (let lost = rw e at h in cc))
    (λ e. let past = ltb-false (position_or_len p xs) (length xs) e in omega arith)
