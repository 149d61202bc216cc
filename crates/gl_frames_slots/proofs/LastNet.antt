-- A word for each slot that takes what passes holds the last value that passes.
use Rattle.std.proofs.Common.{◌≡◌, ℕ, suc, ◌+◌, List, ◌++◌, Option, None, Bool, true, false, sym, ap, ◌∙◌, arith}
use Rattle.std.specs.Prelude.{◌&&◌, if◌then◌else◌}
use Rattle.gl_net.specs.declared.node.Bit.{Bit}
use Rattle.gl_net.specs.Net.{Run}
use Rattle.gl_wire.specs.Wire.{line_at}
use Rattle.gl_wire_lanes.specs.Keeping.{IsKept}
use Rattle.gl_frames.specs.Frames.{last_value_of}
use Rattle.gl_frames.proofs.LastLemmas.{last_values_own, last_values_stay}
use Rattle.gl_frames_wire.specs.Since.{all_ends}
use Rattle.gl_frames_wire.proofs.RingLemmas.{one_in}
use Rattle.gl_frames_wire.proofs.SinceLemmas.{slots_are}
use Rattle.gl_frames_slots.specs.Rows.{AreTold, TellsBySlot, lane_at, slot_here, slot_past}
use Rattle.gl_frames_slots.specs.declared.rows.SlotRows.{SlotRows}

module _ {B : Type 0} (run : Run) (rows : SlotRows) (ends : ℕ → Bool) (told : AreTold run rows ends) (takes : Bit) (v : B → ℕ) (p : B → Bool) (row : ℕ → B) (value before now : ℕ → ℕ)
    (kept : IsKept 0 (lane_at run rows ends) before now)
    (taken : (t : ℕ) → now (suc t) ≡ (if line_at run takes (suc t) then value (suc t) else before (suc t)))
    (line : (t : ℕ) → line_at run takes (suc t) ≡ (line_at run rows.valid (suc t) && p (row (suc t))))
    (is : (t : ℕ) → value (suc t) ≡ v (row (suc t))) where
  stepped : (t : ℕ) → now (suc t) ≡ (if line_at run rows.valid (suc t) && p (row (suc t)) then v (row (suc t)) else before (suc t))
  stepped t =
      taken t ∙ ap (λ (b : Bool). if b then value (suc t) else before (suc t)) (line t)
      ∙ ap (λ (n : ℕ). if line_at run rows.valid (suc t) && p (row (suc t)) then n else before (suc t)) (is t)

  stays : (t : ℕ) → line_at run rows.valid (suc t) ≡ false → now (suc t) ≡ before (suc t)
  stays t none = stepped t ∙ ap (λ (b : Bool). if b && p (row (suc t)) then v (row (suc t)) else before (suc t)) none

  goes_on : (d : ℕ) → line_at run rows.valid (suc d) ≡ true → before (suc d) ≡ last_value_of v None p (slot_past run rows ends row (suc d))
      → now (suc d) ≡ last_value_of v None p (slot_here run rows ends row (suc d))
  goes_on d w e =
      let xs : List B = slot_past run rows ends row (suc d) in
      let x : B = row (suc d) in
      stepped d ∙ ap (λ (b : Bool). if b && p x then v x else before (suc d)) w
      ∙ ap (λ (n : ℕ). if p x then v x else n) e
      ∙ sym (last_values_stay v p xs x)
      ∙ ap (λ own. last_value_of v None p (xs ++ own)) (sym (one_in (line_at run rows.valid (suc d)) x w))

  pub last_told : TellsBySlot run rows ends 0 (last_value_of v None p) row now
  last_told c w =
      let e : suc c + 0 ≡ suc c = omega arith in
      ap now e
      ∙ (slots_are (last_value_of v None p) (all_ends (lane_at run rows ends)) (lane_at run rows ends) row before now told.opens kept (record { with_row = goes_on; without = stays }) c w).here

-- without a FILTER the last value of any frame is that of the row
pub own_value : {B : Type 0} (run : Run) (rows : SlotRows) (ends : ℕ → Bool) (v : B → ℕ) (back : Option ℕ) (row : ℕ → B) (value : ℕ → ℕ) → ((t : ℕ) → value (suc t) ≡ v (row (suc t)))
    → TellsBySlot run rows ends 0 (last_value_of v back (λ r. true)) row value
own_value run rows ends v back row value is c w =
    let e : suc c + 0 ≡ suc c = omega arith in
    ap value e ∙ is c ∙ sym (last_values_own v back (slot_past run rows ends row (suc c)) (row (suc c)))
    ∙ ap (λ own. last_value_of v back (λ r. true) (slot_past run rows ends row (suc c) ++ own)) (sym (one_in (line_at run rows.valid (suc c)) (row (suc c)) w))
