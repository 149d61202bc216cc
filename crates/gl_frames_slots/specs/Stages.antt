-- Rows of slots some cycles later, so that a stage may stand behind a stage, in a netlist.
use Rattle.std.specs.Prelude.{◌≡◌, ℕ, suc, ◌+◌, ◌-◌, ◌*◌, Bool, false, List, if◌then◌else◌, nat_lt}
use Rattle.gl_divide.specs.Divider.{IsLineBehind}
use Rattle.gl_frames.specs.Frames.{framed}
use Rattle.gl_net.specs.Net.{Net, Run, IsRun, IsBus, Keeps}
use Rattle.gl_wire.specs.Costs.{Costs}
use Rattle.gl_wire.specs.Wire.{line_at}
use Rattle.gl_wire_registers.specs.Held.{with_registers}
use Rattle.gl_frames_slots.specs.CountNets.{Counts}
use Rattle.gl_frames_slots.specs.Rows.{AreTold, HasSlotRows, TellsBySlot}
use Rattle.gl_frames_slots.specs.declared.rows.SlotRows.{SlotRows}
use Rattle.gl_frames_slots.specs.declared.stages.CountedRows.{CountedRows}

-- rows so many cycles behind others, which tell of the next cycle too
pub record AreRowsBehind (run : Run) (m : ℕ) (rows later : SlotRows) : Type 0 where
  pub valids : IsLineBehind run m rows.valid later.valid
  pub firsts : IsLineBehind run m rows.first later.first
  pub slots : (t : ℕ) → run.at (suc t + m) later.slot.node ≡ run.at (suc t) rows.slot.node
  pub next_slots : (t : ℕ) → run.at (suc (suc t)) later.slot.node ≡ run.at (suc t) later.next.node
  pub next_firsts : (t : ℕ) → line_at run later.first (suc t) ≡ line_at run later.begins t

-- ends so many cycles later
abbrev pub ends_late : ℕ → (ℕ → Bool) → ℕ → Bool
ends_late m ends c = if nat_lt c m then false else ends (c - m)

-- such rows tell where streams begin that end so many cycles later
abbrev pub RowsToldLate : Type 0
RowsToldLate =
    (run : Run) (m : ℕ) (rows later : SlotRows) (ends : ℕ → Bool) → AreRowsBehind run m rows later
    → AreTold run rows ends → AreTold run later (ends_late m ends)

-- a column tells what is made of the rows of each slot, and one on rows as late tells what is made of that column: it
-- tells what both make of the rows
abbrev pub SlotStagesMeet : Type 0 → Type 0 → Type 0 → Type 0
SlotStagesMeet A B C =
    (run : Run) (m n : ℕ) (rows later : SlotRows) (ends : ℕ → Bool) (f : List B → C) (g : List C → A) (row : ℕ → B)
    (mid : ℕ → C) (made : ℕ → A) → AreRowsBehind run m rows later → TellsBySlot run rows ends m f row mid
    → TellsBySlot run later (ends_late m ends) n g mid made
    → TellsBySlot run rows ends (m + n) (λ xs. g (framed f xs)) row made

-- rows two cycles behind others, and what their registers cost
pub record AreRowsTwoLateIn (old new : Net) (rows later : SlotRows) : Type 0 where
  pub keeps : Keeps old new
  pub cost : Costs old new (with_registers 6 (4 + 2 * rows.slot.width))
  pub has : HasSlotRows new later
  pub same_width : later.slot.width ≡ rows.slot.width
  pub behind : (run : Run) → IsRun new run → AreRowsBehind run 2 rows later

-- the same of rows beside their count, which counts the later rows
pub record AreCountedTwoLateIn (old new : Net) (counted later : CountedRows) : Type 0 where
  pub keeps : Keeps old new
  pub cost : Costs old new (with_registers 8 (4 + 2 * counted.rows.slot.width + 2 * counted.count.width))
  pub has : HasSlotRows new later.rows
  pub same_slots : later.rows.slot.width ≡ counted.rows.slot.width
  pub count : IsBus new later.count
  pub same_count : later.count.width ≡ counted.count.width
  pub behind : (run : Run) → IsRun new run → AreRowsBehind run 2 counted.rows later.rows
  pub counts : (run : Run) → IsRun new run → (ends : ℕ → Bool) → Counts run counted.rows ends counted.count
      → Counts run later.rows (ends_late 2 ends) later.count
