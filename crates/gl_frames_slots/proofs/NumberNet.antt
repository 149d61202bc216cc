-- The count of the rows of a slot before a row tells how many its frame has.
use Rattle.std.proofs.Common.{◌≡◌, ℕ, suc, ◌+◌, ◌^◌, ◌<◌, ◌≤◌, List, ◌++◌, Some, Bool, true, length, sym, ap, ◌∙◌, arith}
use Rattle.std.specs.Prelude.{if◌then◌else◌, nat_le}
use Rattle.gl_values.specs.Totals.{count_of}
use Rattle.gl_bits.specs.Words.{sum_of}
use Rattle.gl_net.specs.Net.{Run}
use Rattle.gl_wire.specs.Wire.{line_at}
use Rattle.gl_frames.specs.Frames.{rows_preceding}
use Rattle.gl_frames_wire.specs.Rings.{wound}
use Rattle.gl_frames_wire.proofs.RingLemmas.{one_in}
use Rattle.gl_frames_stages.proofs.NumberNet.{frame_rows}
use Rattle.gl_frames_slots.specs.Rows.{TellsBySlot, slot_past}
use Rattle.gl_frames_slots.specs.declared.rows.SlotRows.{SlotRows}

pub number_told : (run : Run) (rows : SlotRows) (ends : ℕ → Bool) (size k : ℕ) (column count made late : ℕ → ℕ) → 1 ≤ size → k ≤ size → k < 2 ^ 16
    → ((c : ℕ) → line_at run rows.valid (suc c) ≡ true → count (suc c) ≡ wound size (length (slot_past run rows ends column (suc c))))
    → ((t : ℕ) → made (suc t) ≡ (if nat_le k (count (suc t)) then k + 1 else sum_of 32 (count (suc t)) 1))
    → ((t : ℕ) → late (suc (suc t)) ≡ made (suc t))
    → TellsBySlot run rows ends 1 (λ xs. count_of (rows_preceding (Some k) xs)) column late
number_told run rows ends size k column count made late some few small counts is next c v =
    let e : suc c + 1 ≡ suc (suc c) = omega arith in
    let xs : List ℕ = slot_past run rows ends column (suc c) in
    ap late e ∙ next c ∙ is c ∙ ap (λ (n : ℕ). if nat_le k n then k + 1 else sum_of 32 n 1) (counts c v) ∙ frame_rows size k some few small xs (column (suc c))
    ∙ ap (λ own. count_of (rows_preceding (Some k) (xs ++ own))) (sym (one_in (line_at run rows.valid (suc c)) (column (suc c)) v))
