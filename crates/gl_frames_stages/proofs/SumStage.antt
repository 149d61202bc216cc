-- The sum of a frame, from its changes.
use Rattle.std.proofs.Common.{◌≡◌, ℕ, suc, ◌%◌, ◌^◌, ◌<◌, map, Bool, refl, ap, ◌∙◌}
use Rattle.std.specs.Prelude.{pos, ◌-ℤ◌, ◌-◌, if◌then◌else◌}
use Rattle.std.proofs.Math.Nat.{mod-lt, zero-mod}
use Rattle.std.proofs.lemmas.Bool.{lt-ltb}
use Rattle.std.proofs.lemmas.Nat.{pow_pos}
use Rattle.gl_bits.specs.Words.{difference_of}
use Rattle.gl_values.proofs.Signs.{word_fits}
use Rattle.gl_values.specs.Kinds.{number_of, word_of}
use Rattle.gl_values.specs.Totals.{sum_total}
use Rattle.gl_values.specs.declared.kind.Kind.{Kind}
use Rattle.gl_values.specs.declared.kind.Kind.TheVariants.{Unsigned, Signed, Text}
use Rattle.gl_net.specs.Net.{Run}
use Rattle.gl_frames.specs.Frames.{lag_of, last_ones}
use Rattle.gl_frames.proofs.SumLemmas.{last_map}
use Rattle.gl_frames_stages.specs.Columns.{LinesBehind, Tells, column_of}
use Rattle.gl_frames_stages.specs.Laws.{change_of, itself}
use Rattle.gl_frames_stages.specs.SlideNets.{widened}
use Rattle.gl_frames_stages.specs.declared.lines.Lines.{Lines}
use Rattle.gl_frames_stages.proofs.ChangeLemmas.{changes_sum, sum_rests}
use Rattle.gl_frames_stages.proofs.MeetLemmas.{stages_as}
use Rattle.gl_frames_stages.proofs.SlideNet.{both_told, own_told}

-- the word 0 stands for the number 0
pub number_none : (kind : Kind) → number_of kind 0 ≡ pos 0
number_none (Unsigned w) = refl
number_none (Signed w) = ap (λ (b : Bool). if b then pos 0 else pos 0 -ℤ pos (2 ^ w)) (lt-ltb 0 (2 ^ (w - 1)) (pow_pos (w - 1)))
number_none (Text n) = refl

pub widened_none : (kind : Kind) (w : ℕ) → widened kind w 0 ≡ 0
widened_none kind w = ap (word_of w) (number_none kind) ∙ zero-mod (2 ^ w)

pub widened_fits : (kind : Kind) (w x : ℕ) → widened kind w x < 2 ^ w
widened_fits kind w x = word_fits w (number_of kind x)

module _ (run : Run) (lines late : Lines) (w v n : ℕ) (of : ℕ → ℕ) (none : of 0 ≡ 0) (below : (x : ℕ) → of x < 2 ^ w) (value own gone change sum : ℕ → ℕ) (width : v ≡ w)
    (owns : (t : ℕ) → own (suc (suc t)) ≡ value (suc t)) (leaves : Tells run lines 1 (lag_of itself n) value gone)
    (changes : (t : ℕ) → change (suc (suc t)) ≡ difference_of w (of (own (suc t))) (of (gone (suc t))))
    (behind : LinesBehind run 2 lines late) (summed : Tells run late 1 (sum_total v) change sum) where
  pub changed_sum : Tells run lines 3 (λ xs. sum_total w (map of (last_ones n xs))) value sum
  changed_sum =
      stages_as run 2 1 lines late (change_of of w n) (sum_total w) (λ xs. sum_total w (map of (last_ones n xs))) value change sum
      (λ xs. changes_sum w n of none below xs ∙ ap (sum_total w) (last_map n of xs)) behind
      (both_told run lines 1 (lag_of itself 0) (lag_of itself n) value own gone change (λ x y. difference_of w (of x) (of y)) changes
      (own_told run lines value own owns) leaves)
      (λ c p. summed c p ∙ ap (λ k. sum_total k (column_of run late change (suc c))) width)

-- the same of what fits the width
pub rests_sum : (run : Run) (lines : Lines) (m w n : ℕ) (value sum : ℕ → ℕ) → Tells run lines m (λ xs. sum_total w (map (λ x. x % 2 ^ w) (last_ones n xs))) value sum
    → Tells run lines m (λ xs. sum_total w (last_ones n xs)) value sum
rests_sum run lines m w n value sum h c v = h c v ∙ sum_rests w (last_ones n (column_of run lines value (suc c)))

pub rest_below : (w x : ℕ) → x % 2 ^ w < 2 ^ w
rest_below w x = mod-lt x (pow_pos w)
