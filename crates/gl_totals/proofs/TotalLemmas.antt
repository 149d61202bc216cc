-- Folds as totals.
use Rattle.std.proofs.Common.{◌≡◌, ℕ, ◌+◌, ◌%◌, ◌^◌, List, [], ◌∷◌, map, length, refl, sym, ap, ◌∙◌, arith}
use Rattle.std.specs.Prelude.{fold, if◌then◌else◌, nat_eq, sum}
use Rattle.std.proofs.Math.Nat.{mod-add-mod, zero-mod}
use Rattle.gl_values.specs.Totals.{count_of, greatest_of, least_of, sum_total}
use Rattle.gl_bits.specs.Words.{sum_of}
use Rattle.gl_values.specs.declared.kind.Kind.{Kind}
use Rattle.gl_totals.specs.Folds.{better}
use Rattle.gl_totals.specs.Totals.{extreme_of}
use Rattle.gl_totals.specs.declared.fold.Extreme.{Extreme}
use Rattle.gl_totals.specs.declared.fold.Extreme.TheVariants.{Least, Greatest}

-- ---- sums

sum_from : (w a : ℕ) (xs : List ℕ) → fold (sum_of w) (a % 2 ^ w) xs ≡ fold (λ s x. s + x) a xs % 2 ^ w
unfolding sum_of
sum_from w a [] = refl
sum_from w a (x ∷ xs) = ap (λ (s : ℕ). fold (sum_of w) s xs) (mod-add-mod a (2 ^ w) x) ∙ sum_from w (a + x) xs

pub folds_sum : (w : ℕ) (xs : List ℕ) → fold (sum_of w) 0 xs ≡ sum_total w xs
unfolding sum_total
folds_sum w xs = ap (λ (s : ℕ). fold (sum_of w) s xs) (sym (zero-mod (2 ^ w))) ∙ sum_from w 0 xs

-- as many ones as values
ones_from : (a : ℕ) (xs : List ℕ) → fold (λ s x. s + x) a (map (λ (x : ℕ). 1) xs) ≡ a + length xs
ones_from a [] = omega arith
ones_from a (x ∷ xs) = ones_from (a + 1) xs ∙ omega arith

pub ones_count : (xs : List ℕ) → sum_total 32 (map (λ (x : ℕ). 1) xs) ≡ count_of xs
unfolding sum_total count_of
ones_count xs = let all : sum (map (λ (x : ℕ). 1) xs) ≡ length xs = ones_from 0 xs ∙ omega arith in ap (λ (n : ℕ). n % 2 ^ 32) all

-- ---- extremes

-- whether there was a value, and the best
abbrev pub best_step : Extreme → Kind → ℕ × ℕ → ℕ → ℕ × ℕ
best_step extreme kind state x = (1, if nat_eq state.0 1 then better extreme kind state.1 x else x)

best_from : (extreme : Extreme) (kind : Kind) (best : ℕ) (xs : List ℕ) → (fold (best_step extreme kind) (1, best) xs).1 ≡ fold (better extreme kind) best xs
best_from extreme kind best [] = refl
best_from extreme kind best (x ∷ xs) = best_from extreme kind (better extreme kind best x) xs

pub folds_best : (extreme : Extreme) (kind : Kind) (xs : List ℕ) → (fold (best_step extreme kind) (0, 0) xs).1 ≡ extreme_of extreme kind xs
unfolding least_of greatest_of
folds_best Least kind [] = refl
folds_best Greatest kind [] = refl
folds_best Least kind (x ∷ xs) = best_from Least kind x xs
folds_best Greatest kind (x ∷ xs) = best_from Greatest kind x xs
