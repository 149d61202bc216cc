-- The last value of each slot that passes among its last rows, in a netlist.
use Rattle.std.specs.Prelude.{◌≡◌, ℕ, suc, ◌+◌, ◌*◌, ◌^◌, Bool, true, Some, ◌&&◌, nat_le}
use Rattle.gl_values.specs.Results.{Row}
use Rattle.gl_net.specs.declared.node.Bit.{Bit}
use Rattle.gl_net.specs.declared.node.Bus.{Bus}
use Rattle.gl_net.specs.Net.{Net, Run, IsRun, IsBit, IsBus, Keeps}
use Rattle.gl_frames.specs.Frames.{last_value_of}
use Rattle.gl_frames_stages.specs.Columns.{carried_by}
use Rattle.gl_frames_stages.specs.RecentNets.{age}
use Rattle.gl_frames_wire.specs.Reaches.{place_bits}
use Rattle.gl_frames_wire.specs.Rings.{wound}
use Rattle.gl_wire.specs.Costs.{Costs}
use Rattle.gl_wire.specs.Wire.{line_at}
use Rattle.gl_frames_slots.specs.Rows.{AreTold, TellsBySlot, slot_past}
use Rattle.gl_frames_slots.specs.declared.rows.SlotRows.{SlotRows}

-- a line is 1 with each row that passes
abbrev pub TakesBySlot : Run → SlotRows → Bit → (Row → Bool) → (ℕ → Row) → Type 0
TakesBySlot run rows takes passes row =
    (t : ℕ) → line_at run takes (suc t) ≡ (line_at run rows.valid (suc t) && passes (row (suc t)))

-- in every run, from any contents, before each row the number of rows of its slot since the last one that passes, which
-- goes round above a ring
pub record IsSlotSinceIn (old new : Net) (rows : SlotRows) (takes : Bit) (bits : ℕ) (out : Bus) : Type 0 where
  pub keeps : Keeps old new
  pub cost : Costs old new (record {
    nodes = 17;
    registers = bits + 1;
    memories = 2 ^ rows.slot.width * (bits + 1);
  })
  pub bus : IsBus new out
  pub width : out.width ≡ bits + 1
  pub counts : (run : Run) → IsRun new run → (ends : ℕ → Bool) → AreTold run rows ends
      → (passes : Row → Bool) (row : ℕ → Row) → TakesBySlot run rows takes passes row
      → (c : ℕ) → line_at run rows.valid (suc c) ≡ true
      → run.at (suc c) out.node ≡ wound (2 ^ bits) (age passes (slot_past run rows ends row (suc c)))

-- in every run, from any contents, whether the last row of its slot that passes is so old, before each row
pub record IsSlotAgeIn (old new : Net) (rows : SlotRows) (takes : Bit) (back : ℕ) (out : Bit) : Type 0 where
  pub keeps : Keeps old new
  pub cost : Costs old new (record {
    nodes = 19;
    registers = place_bits (back + 1) + 1;
    memories = 2 ^ rows.slot.width * (place_bits (back + 1) + 1);
  })
  pub bit : IsBit new out
  pub ages : (run : Run) → IsRun new run → (ends : ℕ → Bool) → AreTold run rows ends
      → (passes : Row → Bool) (row : ℕ → Row) → TakesBySlot run rows takes passes row
      → (c : ℕ) → line_at run rows.valid (suc c) ≡ true
      → line_at run out (suc c) ≡ nat_le back (age passes (slot_past run rows ends row (suc c)))

-- in every run, from any contents, one cycle behind each row the last value that passes of its frame
pub record IsSlotRecentIn (old new : Net) (rows : SlotRows) (passes : Bit) (value : Bus) (back : ℕ) (out : Bus) : Type 0 where
  pub keeps : Keeps old new
  pub cost : Costs old new (record {
    nodes = 34;
    registers = place_bits (back + 1) + 1 + 2 * value.width;
    memories = 2 ^ rows.slot.width * value.width + 2 ^ rows.slot.width * (place_bits (back + 1) + 1);
  })
  pub bus : IsBus new out
  pub same_width : out.width ≡ value.width
  pub tells : (run : Run) → IsRun new run → (ends : ℕ → Bool) → AreTold run rows ends
      → (p : Row → Bool) (v : Row → ℕ) (row : ℕ → Row) → ((t : ℕ) → line_at run passes (suc t) ≡ p (row (suc t)))
      → ((t : ℕ) → run.at (suc t) value.node ≡ v (row (suc t)))
      → TellsBySlot run rows ends 1 (last_value_of v (Some back) p) row (carried_by run out)
