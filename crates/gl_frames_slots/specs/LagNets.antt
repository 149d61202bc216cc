-- What a column had so many rows of the same slot before, in a netlist.
use Rattle.std.specs.Prelude.{◌≡◌, ℕ, suc, ◌+◌, ◌*◌, ◌^◌, Bool, true}
use Rattle.gl_net.specs.declared.node.Bus.{Bus}
use Rattle.gl_net.specs.Net.{Net, Run, IsRun, IsBit, IsBus, Keeps}
use Rattle.gl_frames.specs.Frames.{row_before}
use Rattle.gl_frames_stages.specs.Columns.{carried_by}
use Rattle.gl_frames_stages.specs.LaggedNets.{maybe_at}
use Rattle.gl_frames_stages.specs.declared.lagged.Maybe.{Maybe}
use Rattle.gl_frames_wire.specs.declared.reach.Reach.{Reach}
use Rattle.gl_wire.specs.Costs.{Costs}
use Rattle.gl_wire.specs.Wire.{line_at}
use Rattle.gl_frames_slots.specs.CountNets.{Counts}
use Rattle.gl_frames_slots.specs.Rows.{AreTold, TellsBySlot, slot_here}
use Rattle.gl_frames_slots.specs.declared.rows.SlotRows.{SlotRows}

-- in every run, from any contents, with each row what the column had so many rows of its slot before it
pub record IsSlotFoundIn (old new : Net) (rows : SlotRows) (count : Bus) (reach : Reach) (value : Bus) (out : Maybe)
    : Type 0 where
  pub keeps : Keeps old new
  pub cost : Costs old new (record {
    nodes = 9;
    registers = 0;
    memories = 2 ^ (rows.slot.width + reach.bits) * value.width;
  })
  pub bit : IsBit new out.some
  pub bus : IsBus new out.word
  pub same_width : out.word.width ≡ value.width
  pub finds : (run : Run) → IsRun new run → (ends : ℕ → Bool) → AreTold run rows ends → Counts run rows ends count
      → (c : ℕ) → line_at run rows.valid (suc c) ≡ true
      → maybe_at run out (suc c) ≡ row_before reach.back (slot_here run rows ends (carried_by run value) (suc c))

-- the same one cycle later, in registers
pub record IsSlotLaggedIn (old new : Net) (rows : SlotRows) (count : Bus) (reach : Reach) (value : Bus) (out : Maybe)
    : Type 0 where
  pub keeps : Keeps old new
  pub cost : Costs old new (record {
    nodes = 11;
    registers = 1 + value.width;
    memories = 2 ^ (rows.slot.width + reach.bits) * value.width;
  })
  pub bit : IsBit new out.some
  pub bus : IsBus new out.word
  pub same_width : out.word.width ≡ value.width
  pub tells : (run : Run) → IsRun new run → (ends : ℕ → Bool) → AreTold run rows ends → Counts run rows ends count
      → TellsBySlot run rows ends 1 (row_before reach.back) (carried_by run value) (maybe_at run out)
