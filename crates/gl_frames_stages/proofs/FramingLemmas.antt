-- Frames of the last rows, from what columns of their values tell.
use Rattle.std.proofs.Common.{◌≡◌, ℕ, zero, suc, ◌<◌, List, [], ◌∷◌, map, Option, Some, None, Bool, true, false, refl, sym, ap, ◌∙◌, arith}
use Rattle.std.specs.Prelude.{filter, if◌then◌else◌, nat_eq}
use Rattle.std.specs.Option.{option_map}
use Rattle.gl_bits.specs.Words.{bit}
use Rattle.gl_values.specs.Totals.{count_of, sum_total}
use Rattle.gl_values.specs.declared.kind.Kind.TheVariants.{Unsigned}
use Rattle.gl_frames.specs.Frames.{frame_of, lag_of, last_ones, number_or, row_before, total_over}
use Rattle.gl_frames.specs.Laws.{masked}
use Rattle.gl_frames.proofs.SumLemmas.{counts_sum, filters_mask, last_map}
use Rattle.gl_frames_stages.specs.Laws.{itself}
use Rattle.gl_frames_stages.specs.SlideNets.{widened}
use Rattle.gl_frames_stages.proofs.ChangeLemmas.{row_map}

number_through : {B : Type 0} (v : B → ℕ) (o : Option B) → number_or itself (option_map v o) ≡ number_or v o
number_through v None = refl
number_through v (Some x) = refl

pub lag_through : {B : Type 0} (v : B → ℕ) (k : ℕ) (rows : List B) → lag_of itself k (map v rows) ≡ lag_of v k rows
lag_through v k rows = ap (number_or itself) (row_map v k rows) ∙ number_through v (row_before k rows)

pub sum_through : {B : Type 0} (w k : ℕ) (v : B → ℕ) (p : B → Bool) (rows : List B)
    → sum_total w (last_ones (suc k) (map (masked v p) rows)) ≡ total_over (sum_total w) v (Some k) p rows
sum_through w k v p rows = sym (filters_mask w (Some k) v p rows)

-- all pass
pub every_one : {B : Type 0} (rows : List B) → filter (λ (r : B). true) rows ≡ rows
every_one [] = refl
every_one (r ∷ rows) = ap (λ l. r ∷ l) (every_one rows)

pub total_through : {B : Type 0} (total : List ℕ → ℕ) (k : ℕ) (v : B → ℕ) (rows : List B)
    → total (last_ones (suc k) (map v rows)) ≡ total_over total v (Some k) (λ r. true) rows
total_through total k v rows = ap total (last_map (suc k) v rows ∙ ap (map v) (sym (every_one (last_ones (suc k) rows))))

-- a bit as a number
pub bit_word : (n : ℕ) → n < 2 → n ≡ bit (nat_eq n 1)
bit_word n lt = by n lt
  where
    by : (m : ℕ) → m < 2 → m ≡ bit (nat_eq m 1)
    by zero less = refl
    by (suc zero) less = refl
    by (suc (suc m)) less = absurd (omega (arith, less))

module _ {B : Type 0} (p : B → Bool) where
  one_of : (b : Bool) → widened (Unsigned 1) 32 (bit b) ≡ (if b then 1 else 0)
  one_of true = refl
  one_of false = refl

  ones : (rows : List B) → map (widened (Unsigned 1) 32) (map (λ r. bit (p r)) rows) ≡ map (masked (λ r. 1) p) rows
  ones [] = refl
  ones (r ∷ rows) = ap (λ n. n ∷ map (widened (Unsigned 1) 32) (map (λ s. bit (p s)) rows)) (one_of (p r)) ∙ ap (λ l. masked (λ s. 1) p r ∷ l) (ones rows)

  pub count_through : (k : ℕ) (rows : List B)
      → sum_total 32 (map (widened (Unsigned 1) 32) (last_ones (suc k) (map (λ r. bit (p r)) rows))) ≡ count_of (frame_of (Some k) p rows)
  count_through k rows =
      ap (λ l. sum_total 32 (map (widened (Unsigned 1) 32) l)) (last_map (suc k) (λ r. bit (p r)) rows)
      ∙ ap (sum_total 32) (ones (last_ones (suc k) rows) ∙ sym (last_map (suc k) (masked (λ r. 1) p) rows))
      ∙ sym (filters_mask 32 (Some k) (λ r. 1) p rows) ∙ sym (counts_sum (frame_of (Some k) p rows))
