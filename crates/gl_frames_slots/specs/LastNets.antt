-- The last value of each slot that passes, in a netlist.
use Rattle.std.specs.Prelude.{◌≡◌, ℕ, suc, ◌*◌, ◌^◌, Bool, None, ◌&&◌}
use Rattle.gl_values.specs.Results.{Row}
use Rattle.gl_net.specs.declared.node.Bit.{Bit}
use Rattle.gl_net.specs.declared.node.Bus.{Bus}
use Rattle.gl_net.specs.Net.{Net, Run, IsRun, IsBus, Keeps}
use Rattle.gl_frames.specs.Frames.{last_value_of}
use Rattle.gl_frames_stages.specs.Columns.{carried_by}
use Rattle.gl_wire.specs.Costs.{Costs}
use Rattle.gl_wire.specs.Wire.{line_at}
use Rattle.gl_frames_slots.specs.Rows.{AreTold, TellsBySlot}
use Rattle.gl_frames_slots.specs.declared.rows.SlotRows.{SlotRows}

-- in every run, from any contents, with each row the value of the last row of its slot so far that passes
pub record IsSlotLastIn (old new : Net) (rows : SlotRows) (takes : Bit) (value out : Bus) : Type 0 where
  pub keeps : Keeps old new
  pub cost : Costs old new (record {
    nodes = 10;
    registers = value.width;
    memories = 2 ^ rows.slot.width * value.width;
  })
  pub bus : IsBus new out
  pub same_width : out.width ≡ value.width
  pub tells : (run : Run) → IsRun new run → (ends : ℕ → Bool) → AreTold run rows ends
      → (p : Row → Bool) (v : Row → ℕ) (row : ℕ → Row)
      → ((t : ℕ) → line_at run takes (suc t) ≡ (line_at run rows.valid (suc t) && p (row (suc t))))
      → ((t : ℕ) → run.at (suc t) value.node ≡ v (row (suc t)))
      → TellsBySlot run rows ends 0 (last_value_of v None p) row (carried_by run out)
