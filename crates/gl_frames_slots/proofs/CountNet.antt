-- A memory that is read a cycle ahead keeps a state for each slot, and a count that goes round counts its rows.
use Rattle.std.proofs.Common.{◌≡◌, ℕ, zero, suc, ◌≤◌, Bool, true, false, length, refl, sym, ap, ◌∙◌}
use Rattle.std.specs.Prelude.{◌&&◌, if◌then◌else◌, nat_eq}
use Rattle.gl_bits.proofs.Bools.{not_both}
use Rattle.gl_net.specs.declared.node.Bus.{Bus}
use Rattle.gl_net.specs.Net.{Run}
use Rattle.gl_totals.specs.Slots.{IsPast, writes_at}
use Rattle.gl_wire.specs.Wire.{line_at}
use Rattle.gl_wire.proofs.StageLemmas.{line_first}
use Rattle.gl_wire_lanes.specs.Keeping.{IsKept}
use Rattle.gl_wire_lanes.proofs.FoldLemmas.{ahead_is_kept}
use Rattle.gl_frames_wire.specs.Rings.{wind, wound}
use Rattle.gl_frames_wire.specs.Since.{all_ends}
use Rattle.gl_frames_wire.proofs.SinceLemmas.{slots_fold}
use Rattle.gl_frames_wire.proofs.WindLemmas.{counts_from}
use Rattle.gl_frames_slots.specs.Rows.{AreTold, lane_at, slot_past}
use Rattle.gl_frames_slots.specs.declared.rows.SlotRows.{SlotRows}

module _ (run : Run) (rows : SlotRows) (ends : ℕ → Bool) (told : AreTold run rows ends) (initial : ℕ) (word now out : Bus)
    (past : IsPast run rows.valid rows.first rows.slot rows.next now out)
    (later : (t : ℕ) → run.at (suc (suc t)) word.node ≡ (if line_at run rows.begins (suc t) then initial else run.at (suc t) out.node)) where
  -- the word before it is cleared
  ahead : ℕ → ℕ
  ahead zero = run.at 0 word.node
  ahead (suc zero) = run.at 1 word.node
  ahead (suc (suc t)) = run.at (suc t) out.node

  cleared : (t : ℕ) → line_at run rows.first (suc t) ≡ true → run.at (suc t) word.node ≡ initial
  cleared zero p = absurd (not_both (line_at run rows.first 1) p (told.firsts 0 ∙ line_first run rows.begins))
  cleared (suc t) p = later t ∙ ap (λ (b : Bool). if b then initial else run.at (suc t) out.node) (sym (told.firsts (suc t)) ∙ p)

  taken : (t : ℕ) → line_at run rows.first (suc t) ≡ false → run.at (suc t) word.node ≡ ahead (suc t)
  unfolding ahead
  taken zero p = refl
  taken (suc t) p = later t ∙ ap (λ (b : Bool). if b then initial else run.at (suc t) out.node) (sym (told.firsts (suc t)) ∙ p)

  pub passing_kept : IsKept initial (lane_at run rows ends) (λ t. run.at t word.node) (λ t. run.at t now.node)
  unfolding ahead
  passing_kept = ahead_is_kept initial (lane_at run rows ends) (λ t. run.at t word.node) (λ t. run.at t now.node) (record {
    word = past.word;
    ahead = ahead;
    begins = cleared;
    takes = taken;
    leaves = past.leaves;
    reads = λ t. past.reads t
        ∙ ap (λ (n : ℕ). if nat_eq (run.at (suc t) rows.slot.node) n && writes_at run rows.valid rows.first (suc t) then run.at (suc t) now.node else past.word (suc t) n) (sym (told.slots t));
  })

  module _ (size : ℕ) (some : 1 ≤ size) (none : initial ≡ 0)
      (with_row : (t : ℕ) → run.at (suc t) now.node ≡ (if line_at run rows.valid (suc t) then wind size (run.at (suc t) word.node) else run.at (suc t) word.node)) where
    kept : IsKept 0 (lane_at run rows ends) (λ t. run.at t word.node) (λ t. run.at t now.node)
    kept = let k = passing_kept in record { word = k.word; begins = λ c p. k.begins c p ∙ none; takes = k.takes; leaves = k.leaves }

    pub slots_counted : (column : ℕ → ℕ) (c : ℕ) → line_at run rows.valid (suc c) ≡ true
        → run.at (suc c) word.node ≡ wound size (length (slot_past run rows ends column (suc c)))
    slots_counted column c v =
        (slots_fold (λ n (x : ℕ). wind size n) 0 (all_ends (lane_at run rows ends)) (lane_at run rows ends) column (λ t. run.at t word.node) (λ t. run.at t now.node)
        told.opens kept with_row c v).past
        ∙ counts_from size some (slot_past run rows ends column (suc c))
