-- The count of the rows of each slot, in a netlist.
use Rattle.std.specs.Prelude.{◌≡◌, ℕ, suc, ◌+◌, ◌-◌, ◌*◌, ◌^◌, Bool, true, length}
use Rattle.gl_net.specs.declared.node.Bus.{Bus}
use Rattle.gl_net.specs.Net.{Net, Run, IsRun, IsBus, Keeps}
use Rattle.gl_frames_wire.specs.Rings.{wound}
use Rattle.gl_wire.specs.Costs.{Costs}
use Rattle.gl_wire.specs.Wire.{line_at}
use Rattle.gl_frames_slots.specs.Rows.{AreTold, slot_past}
use Rattle.gl_frames_slots.specs.declared.rows.SlotRows.{SlotRows}

-- with each row a bus tells the number of those of its slot before it, which goes round above a ring; its highest bit
-- tells whether there were as many as the ring has words
abbrev pub Counts : Run → SlotRows → (ℕ → Bool) → Bus → Type 0
Counts run rows ends count =
    (column : ℕ → ℕ) (c : ℕ) → line_at run rows.valid (suc c) ≡ true
    → run.at (suc c) count.node ≡ wound (2 ^ (count.width - 1)) (length (slot_past run rows ends column (suc c)))

-- in every run, from any contents
pub record IsSlotCountIn (old new : Net) (rows : SlotRows) (bits : ℕ) (out : Bus) : Type 0 where
  pub keeps : Keeps old new
  pub cost : Costs old new (record {
    nodes = 16;
    registers = bits + 1;
    memories = 2 ^ rows.slot.width * (bits + 1);
  })
  pub bus : IsBus new out
  pub width : out.width ≡ bits + 1
  pub counts : (run : Run) → IsRun new run → (ends : ℕ → Bool) → AreTold run rows ends → Counts run rows ends out
