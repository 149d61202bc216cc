-- A number that is read digit by digit.
use Rattle.std.proofs.Common.{◌≡◌, ℕ, ◌+◌, ◌<◌, List, take, get_or, length, Some, None, refl}
use Rattle.std.specs.List.{fold}
use Rattle.std.proofs.lemmas.List.Sums.{fold_more}
use Rattle.std.proofs.lemmas.List.Folds.{fold_stuck}
use Rattle.gl_query_tokens.specs.Words.{with_digit}

pub number_more : (w : List ℕ) (i : ℕ) → i < length w → fold with_digit (Some 0) (take (i + 1) w) ≡ with_digit (fold with_digit (Some 0) (take i w)) (get_or w i 0)
number_more w i lt = fold_more with_digit (Some 0) w i 0 lt

pub number_stuck : (w : List ℕ) (i : ℕ) → i < length w → with_digit (fold with_digit (Some 0) (take i w)) (get_or w i 0) ≡ None → None ≡ fold with_digit (Some 0) w
number_stuck w i lt e = fold_stuck with_digit None (λ x. refl) (Some 0) w i 0 lt e

pub ruleset number_steps = (number_more, number_stuck)
