-- Rows of many slots whose streams end together, and what a column tells of another, slot by slot.
use Rattle.std.specs.Prelude.{◌≡◌, ℕ, suc, ◌+◌, Bool, true, false, List}
use Rattle.gl_net.specs.Net.{IsAddressWidth, IsBit, IsBus, Net, Run}
use Rattle.gl_frames_wire.specs.Since.{Opens, all_ends, rows_here, rows_past}
use Rattle.gl_wire.specs.Wire.{line_at}
use Rattle.gl_wire_lanes.specs.Lanes.{Lane}
use Rattle.gl_frames_slots.specs.declared.rows.SlotRows.{SlotRows}

-- the lines and buses are in the netlist
pub record HasSlotRows (net : Net) (rows : SlotRows) : Type 0 where
  pub valid : IsBit net rows.valid
  pub first : IsBit net rows.first
  pub slot : IsBus net rows.slot
  pub begins : IsBit net rows.begins
  pub next : IsBus net rows.next
  pub same_width : rows.next.width ≡ rows.slot.width
  pub bits : IsAddressWidth rows.slot.width

-- the rows as a lane, whose ends they do not tell
abbrev pub lane_at : Run → SlotRows → (ℕ → Bool) → Lane
lane_at run rows ends = record {
  valid = line_at run rows.valid;
  ends = ends;
  slot = λ c. run.at c rows.slot.node;
  first = line_at run rows.first;
}

-- each slot, and whether its stream begins, is told one cycle before; and the lines tell where streams begin that end in
-- these cycles. No row comes in the first cycle, whose slot nobody told
pub record AreTold (run : Run) (rows : SlotRows) (ends : ℕ → Bool) : Type 0 where
  pub quiet : line_at run rows.valid 1 ≡ false
  pub slots : (t : ℕ) → run.at (suc (suc t)) rows.slot.node ≡ run.at (suc t) rows.next.node
  pub firsts : (t : ℕ) → line_at run rows.first (suc t) ≡ line_at run rows.begins t
  pub opens : Opens (all_ends (lane_at run rows ends)) (lane_at run rows ends)

-- what a column has with the rows of the open stream of a cycle's slot, before this cycle's row
abbrev pub slot_past : {B : Type 0} → Run → SlotRows → (ℕ → Bool) → (ℕ → B) → ℕ → List B
slot_past run rows ends column c = rows_past (all_ends (lane_at run rows ends)) (lane_at run rows ends) column c

-- and with this cycle's row
abbrev pub slot_here : {B : Type 0} → Run → SlotRows → (ℕ → Bool) → (ℕ → B) → ℕ → List B
slot_here run rows ends column c = rows_here (all_ends (lane_at run rows ends)) (lane_at run rows ends) column c

-- with each row a column tells, so many cycles later, what `of` makes of what another column had with the rows of this
-- row's slot up to it
abbrev pub TellsBySlot : {A B : Type 0} → Run → SlotRows → (ℕ → Bool) → ℕ → (List B → A) → (ℕ → B) → (ℕ → A) → Type 0
TellsBySlot run rows ends m of row made =
    (c : ℕ) → line_at run rows.valid (suc c) ≡ true → made (suc c + m) ≡ of (slot_here run rows ends row (suc c))
