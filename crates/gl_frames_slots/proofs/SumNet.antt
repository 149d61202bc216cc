-- The sum of the last values of each slot, from its changes, and the fold behind them.
use Rattle.std.proofs.Common.{◌≡◌, ℕ, suc, ◌+◌, ◌%◌, ◌^◌, ◌<◌, map, Bool, ap, ◌∙◌, arith}
use Rattle.gl_bits.specs.Words.{difference_of, sum_of}
use Rattle.gl_values.specs.Totals.{sum_total}
use Rattle.gl_net.specs.declared.node.Bit.{Bit}
use Rattle.gl_net.specs.declared.node.Bus.{Bus}
use Rattle.gl_net.specs.Net.{Run}
use Rattle.gl_frames.specs.Frames.{lag_of, last_ones}
use Rattle.gl_frames.proofs.SumLemmas.{last_map}
use Rattle.gl_frames_stages.specs.Columns.{carried_by}
use Rattle.gl_frames_stages.specs.Laws.{change_of, itself}
use Rattle.gl_frames_stages.proofs.ChangeLemmas.{changes_sum, sum_rests}
use Rattle.gl_frames_wire.specs.Since.{all_ends}
use Rattle.gl_frames_wire.proofs.SinceLemmas.{slots_fold}
use Rattle.gl_totals.specs.Folds.{IsFolded}
use Rattle.gl_totals.specs.Open.{in_memory}
use Rattle.gl_totals.specs.declared.fold.Step.TheVariants.{Add}
use Rattle.gl_totals.proofs.TotalLemmas.{folds_sum}
use Rattle.gl_wire_lanes.specs.Keeping.{IsKept}
use Rattle.gl_frames_slots.specs.Rows.{AreTold, TellsBySlot, lane_at, slot_here}
use Rattle.gl_frames_slots.specs.Stages.{AreRowsBehind, ends_late}
use Rattle.gl_frames_slots.specs.declared.rows.SlotRows.{SlotRows}
use Rattle.gl_frames_slots.proofs.ItemsNet.{own_told}
use Rattle.gl_frames_slots.proofs.MeetLemmas.{both_told, stages_meet}

-- a fold of sums in a memory is the sum of the values of a slot
module _ (run : Run) (rows : SlotRows) (ends : ℕ → Bool) (told : AreTold run rows ends) (w : ℕ) (value before now out : Bus) (eos : Bit)
    (folded : IsFolded run w 0 (Add value) (in_memory rows.valid eos rows.first rows.begins rows.slot rows.next) before now)
    (later : (t : ℕ) → run.at (suc (suc t)) out.node ≡ run.at (suc t) now.node) where
  kept : IsKept 0 (lane_at run rows ends) (λ t. run.at t before.node) (λ t. run.at t now.node)
  kept = let k = folded.kept in record { word = k.word; begins = k.begins; takes = k.takes; leaves = k.leaves }

  pub slots_summed : TellsBySlot run rows ends 1 (sum_total w) (carried_by run value) (carried_by run out)
  slots_summed c v =
      let e : suc c + 1 ≡ suc (suc c) = omega arith in
      ap (carried_by run out) e ∙ later c
      ∙ (slots_fold (sum_of w) 0 (all_ends (lane_at run rows ends)) (lane_at run rows ends) (carried_by run value) (λ t. run.at t before.node) (λ t. run.at t now.node)
      told.opens kept folded.with_row c v).here
      ∙ folds_sum w (slot_here run rows ends (carried_by run value) (suc c))

module _ (run : Run) (rows late : SlotRows) (ends : ℕ → Bool) (w v n : ℕ) (of : ℕ → ℕ) (none : of 0 ≡ 0) (below : (x : ℕ) → of x < 2 ^ w) (value own gone change sum : ℕ → ℕ) (width : v ≡ w)
    (owns : (t : ℕ) → own (suc (suc t)) ≡ value (suc t)) (leaves : TellsBySlot run rows ends 1 (lag_of itself n) value gone)
    (changes : (t : ℕ) → change (suc (suc t)) ≡ difference_of w (of (own (suc t))) (of (gone (suc t))))
    (behind : AreRowsBehind run 2 rows late) (summed : TellsBySlot run late (ends_late 2 ends) 1 (sum_total v) change sum) where
  pub changed_sum : TellsBySlot run rows ends 3 (λ xs. sum_total w (map of (last_ones n xs))) value sum
  changed_sum c p =
      stages_meet run 2 1 rows late ends (change_of of w n) (sum_total w) value change sum behind
      (both_told run rows ends 1 (lag_of itself 0) (lag_of itself n) value own gone change (λ x y. difference_of w (of x) (of y)) changes
      (own_told run rows ends itself value own owns) leaves)
      (λ d q. summed d q ∙ ap (λ k. sum_total k (slot_here run late (ends_late 2 ends) change (suc d))) width) c p
      ∙ (changes_sum w n of none below (slot_here run rows ends value (suc c)) ∙ ap (sum_total w) (last_map n of (slot_here run rows ends value (suc c))))

-- the same of what fits the width
pub rests_sum : (run : Run) (rows : SlotRows) (ends : ℕ → Bool) (m w n : ℕ) (value sum : ℕ → ℕ)
    → TellsBySlot run rows ends m (λ xs. sum_total w (map (λ x. x % 2 ^ w) (last_ones n xs))) value sum
    → TellsBySlot run rows ends m (λ xs. sum_total w (last_ones n xs)) value sum
rests_sum run rows ends m w n value sum h c v = h c v ∙ sum_rests w (last_ones n (slot_here run rows ends value (suc c)))
