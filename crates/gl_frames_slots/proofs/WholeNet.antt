-- Sums and counts of all rows of a slot that pass.
use Rattle.std.proofs.Common.{◌≡◌, ℕ, suc, ◌%◌, ◌^◌, List, map, Bool, length, sym, ap, ◌∙◌, arith}
use Rattle.std.specs.Prelude.{filter}
use Rattle.std.proofs.lemmas.List.{length-map}
use Rattle.gl_values.specs.Kinds.{word_of}
use Rattle.gl_values.specs.Totals.{count_of, sum_of_numbers, sum_total}
use Rattle.gl_values.specs.declared.kind.Kind.{Kind}
use Rattle.gl_frames.specs.Laws.{masked}
use Rattle.gl_frames_stages.specs.SlideNets.{widened}
use Rattle.gl_frames_stages.proofs.MeanLemmas.{masked_sum}
use Rattle.gl_frames_slots.proofs.ExtremeNet.{all_ones}

module _ {B : Type 0} (kind : Kind) (v : B → ℕ) (p : B → Bool) where
  pub whole_sum : (w : ℕ) (rows : List B) → sum_total w (map (widened kind w) (map (masked v p) rows)) ≡ word_of w (sum_of_numbers kind (map v (filter p rows)))
  whole_sum w rows =
      let n : ℕ = length rows in
      let long = length-map rows (masked v p) in
      ap (λ l. sum_total w (map (widened kind w) l)) (sym (all_ones (suc n) (map (masked v p) rows) (omega (arith, long))))
      ∙ masked_sum kind v p w n rows
      ∙ ap (λ zs. word_of w (sum_of_numbers kind (map v (filter p zs)))) (all_ones (suc n) rows (omega arith))

pub counted_values : {B : Type 0} (v : B → ℕ) (zs : List B) → count_of zs ≡ count_of (map v zs)
unfolding count_of
counted_values v zs = ap (λ (n : ℕ). n % 2 ^ 32) (sym (length-map zs v))
