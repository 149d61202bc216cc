-- The average of the last rows, from a sum and a count of its own width.
use Rattle.std.proofs.Common.{◌≡◌, ℕ, suc, ◌+◌, ◌-◌, ◌%◌, ◌^◌, ◌<◌, ◌≤◌, List, [], ◌∷◌, map, length, Some, Bool, true, false, refl, sym, ap, ◌∙◌, arith}
use Rattle.std.specs.Prelude.{ℤ, pos, ◌+ℤ◌, filter, fold, if◌then◌else◌}
use Rattle.std.proofs.Math.Nat.{mod-eq_of_lt, mod-le}
use Rattle.std.proofs.lemmas.Int.{ints}
use Rattle.std.proofs.lemmas.List.{length-drop, length-map}
use Rattle.gl_values.proofs.Totalling.{words_sum}
use Rattle.gl_values.specs.Kinds.{number_of, width_of, word_of, wrapped}
use Rattle.gl_values.specs.Totals.{average_of, count_of, quotient_of, sum_of_numbers, sum_total}
use Rattle.gl_values.specs.declared.kind.Kind.{Kind}
use Rattle.gl_frames.specs.Frames.{frame_of, last_ones}
use Rattle.gl_frames.specs.Laws.{masked}
use Rattle.gl_frames.proofs.SumLemmas.{last_map}
use Rattle.gl_frames_stages.specs.SlideNets.{widened}
use Rattle.gl_frames_stages.proofs.PackLemmas.{same_passed}
use Rattle.gl_frames_stages.proofs.RangeLemmas.{sum_within}
use Rattle.gl_frames_stages.proofs.SumStage.{number_none}

module _ {B : Type 0} (kind : Kind) (v : B → ℕ) (p : B → Bool) where
  -- what does not pass adds nothing
  passed_sum : (a : ℤ) (zs : List B) → fold (λ s x. s +ℤ number_of kind x) a (map (masked v p) zs) ≡ fold (λ s x. s +ℤ number_of kind x) a (map v (filter p zs))
  passed_sum a [] = refl
  passed_sum a (z ∷ zs) = by (p z) (passed_sum (a +ℤ number_of kind (v z)) zs) (passed_sum a zs)
    where
      none : a +ℤ number_of kind 0 ≡ a
      none = ap (λ k. a +ℤ k) (number_none kind) ∙ omega (arith, ints)

      by : (b : Bool)
          → fold (λ s x. s +ℤ number_of kind x) (a +ℤ number_of kind (v z)) (map (masked v p) zs) ≡ fold (λ s x. s +ℤ number_of kind x) (a +ℤ number_of kind (v z)) (map v (filter p zs))
          → fold (λ s x. s +ℤ number_of kind x) a (map (masked v p) zs) ≡ fold (λ s x. s +ℤ number_of kind x) a (map v (filter p zs))
          → fold (λ s x. s +ℤ number_of kind x) (a +ℤ number_of kind (if b then v z else 0)) (map (masked v p) zs)
          ≡ fold (λ s x. s +ℤ number_of kind x) a (map v (if b then z ∷ filter p zs else filter p zs))
      by true h g = h
      by false h g = ap (λ k. fold (λ s x. s +ℤ number_of kind x) k (map (masked v p) zs)) none ∙ g

  pub masked_sum : (w k : ℕ) (rows : List B)
      → sum_total w (map (widened kind w) (last_ones (suc k) (map (masked v p) rows))) ≡ word_of w (sum_of_numbers kind (map v (frame_of (Some k) p rows)))
  masked_sum w k rows =
      words_sum kind w (last_ones (suc k) (map (masked v p) rows))
      ∙ ap (λ l. word_of w (sum_of_numbers kind l)) (last_map (suc k) (masked v p) rows)
      ∙ ap (word_of w) (passed_sum (pos 0) (last_ones (suc k) rows))

  fewer_pass : (zs : List B) → length (filter p zs) ≤ length zs
  fewer_pass [] = omega arith
  fewer_pass (z ∷ zs) = by (p z) (fewer_pass zs)
    where
      by : (b : Bool) → length (filter p zs) ≤ length zs → length (if b then z ∷ filter p zs else filter p zs) ≤ length (z ∷ zs)
      by true h = omega (arith, h)
      by false h = omega (arith, h)

  few_rows : (n : ℕ) (rows : List B) → length (last_ones n rows) ≤ n
  few_rows n rows = let e = length-drop (length rows - n) rows in omega (arith, e)

  -- a number of as many bits as that of all rows of a frame has room for that of those that pass
  pub few_counted : (b k : ℕ) (rows : List B) → suc k < 2 ^ b → count_of (frame_of (Some k) p rows) % 2 ^ b ≡ count_of (frame_of (Some k) p rows)
  unfolding count_of
  few_counted b k rows fits =
      let a = fewer_pass (last_ones (suc k) rows) in
      let c = few_rows (suc k) rows in
      let n : ℕ = length (filter p (last_ones (suc k) rows)) in
      let m : n % 2 ^ 32 ≤ n = mod-le n (2 ^ 32) in
      mod-eq_of_lt (omega (arith, a, c, m, fits))

  pub average_from : (b k : ℕ) (rows : List B) → 1 ≤ width_of kind → 1 ≤ b → suc k < 2 ^ b → suc k < 2 ^ 32 → map (λ r. v r % 2 ^ width_of kind) rows ≡ map v rows
      → word_of (width_of kind) (quotient_of (wrapped kind (width_of kind + b) (sum_of_numbers kind (map v (frame_of (Some k) p rows)))) (count_of (frame_of (Some k) p rows)))
      ≡ average_of kind (map v (frame_of (Some k) p rows))
  unfolding average_of count_of
  average_from b k rows some more fits wide all =
      let w : ℕ = width_of kind in
      let rest : B → ℕ = (λ r. v r % 2 ^ w) in
      let zs : List B = last_ones (suc k) rows in
      let there : map rest zs ≡ map v zs = sym (last_map (suc k) rest rows) ∙ ap (last_ones (suc k)) all ∙ last_map (suc k) v rows in
      let same : map rest (filter p zs) ≡ map v (filter p zs) = same_passed p rest v zs there in
      let few : length (filter p zs) ≤ suc k = (let a = fewer_pass zs in let c = few_rows (suc k) rows in omega (arith, a, c)) in
      let long : length (filter p zs) % 2 ^ 32 ≡ length (map v (filter p zs)) % 2 ^ 32 = ap (λ (n : ℕ). n % 2 ^ 32) (sym (length-map (filter p zs) v)) in
      let held : wrapped kind (w + b) (sum_of_numbers kind (map v (filter p zs))) ≡ wrapped kind (w + 32) (sum_of_numbers kind (map v (filter p zs))) =
      ap (λ l. wrapped kind (w + b) (sum_of_numbers kind l)) (sym same)
      ∙ sum_within kind b v (filter p zs) some more (omega (arith, few, fits))
      ∙ sym (sum_within kind 32 v (filter p zs) some (omega arith) (omega (arith, few, wide)))
      ∙ ap (λ l. wrapped kind (w + 32) (sum_of_numbers kind l)) same in
      ap (λ z. word_of w (quotient_of z (length (filter p zs) % 2 ^ 32))) held
      ∙ ap (λ n. word_of w (quotient_of (wrapped kind (w + 32) (sum_of_numbers kind (map v (filter p zs)))) n)) long
