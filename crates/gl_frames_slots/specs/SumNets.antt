-- The sum of the last values of each slot, in a netlist.
use Rattle.std.specs.Prelude.{◌≡◌, ℕ, suc, ◌+◌, ◌*◌, ◌^◌, Bool, map}
use Rattle.gl_values.specs.Totals.{sum_total}
use Rattle.gl_net.specs.declared.node.Bus.{Bus}
use Rattle.gl_net.specs.Net.{Net, Run, IsRun, IsBus, Keeps}
use Rattle.gl_frames.specs.Frames.{lag_of, last_ones}
use Rattle.gl_frames_stages.specs.Columns.{carried_by}
use Rattle.gl_frames_stages.specs.Laws.{itself}
use Rattle.gl_frames_stages.specs.SlideNets.{widened}
use Rattle.gl_frames_stages.specs.declared.slide.Slide.{Slide}
use Rattle.gl_frames_wire.specs.declared.reach.Reach.{Reach}
use Rattle.gl_wire.specs.Costs.{Costs, CostsAtMost}
use Rattle.gl_frames_slots.specs.CountNets.{Counts}
use Rattle.gl_frames_slots.specs.Rows.{AreTold, TellsBySlot}
use Rattle.gl_frames_slots.specs.declared.rows.SlotRows.{SlotRows}
use Rattle.gl_frames_slots.specs.declared.sum.Wide.{Wide}

-- in every run, from any contents, one cycle behind each row the sum of the values of its slot up to it
pub record IsSlotSummedIn (old new : Net) (rows : SlotRows) (value out : Bus) : Type 0 where
  pub keeps : Keeps old new
  pub cost : CostsAtMost old new (record {
    nodes = 12;
    registers = 2 * value.width;
    memories = 2 ^ rows.slot.width * value.width;
  })
  pub bus : IsBus new out
  pub same_width : out.width ≡ value.width
  pub tells : (run : Run) → IsRun new run → (ends : ℕ → Bool) → AreTold run rows ends
      → TellsBySlot run rows ends 1 (sum_total value.width) (carried_by run value) (carried_by run out)

-- one cycle behind each row its own value, and that of so many rows of its slot before or 0
pub record IsSlotSlideIn (old new : Net) (rows : SlotRows) (count : Bus) (reach : Reach) (value : Bus) (s : Slide)
    : Type 0 where
  pub keeps : Keeps old new
  pub cost : Costs old new (record {
    nodes = 14;
    registers = 1 + 2 * value.width;
    memories = 2 ^ (rows.slot.width + reach.bits) * value.width;
  })
  pub own_bus : IsBus new s.own
  pub own_width : s.own.width ≡ value.width
  pub owns : (run : Run) → IsRun new run → (t : ℕ) → run.at (suc (suc t)) s.own.node ≡ run.at (suc t) value.node
  pub gone_bus : IsBus new s.gone
  pub gone_width : s.gone.width ≡ value.width
  pub leaves : (run : Run) → IsRun new run → (ends : ℕ → Bool) → AreTold run rows ends → Counts run rows ends count
      → TellsBySlot run rows ends 1 (lag_of itself reach.back) (carried_by run value) (carried_by run s.gone)

-- in every run, from any contents, three cycles behind each row the sum of the last values of its slot, its own included
pub record IsSlotSumIn (old new : Net) (rows : SlotRows) (count : Bus) (reach : Reach) (value out : Bus) : Type 0 where
  pub keeps : Keeps old new
  pub cost : CostsAtMost old new (record {
    nodes = 34;
    registers = 5 + 2 * rows.slot.width + 5 * value.width;
    memories = 2 ^ (rows.slot.width + reach.bits) * value.width + 2 ^ rows.slot.width * value.width;
  })
  pub bus : IsBus new out
  pub same_width : out.width ≡ value.width
  pub tells : (run : Run) → IsRun new run → (ends : ℕ → Bool) → AreTold run rows ends → Counts run rows ends count
      → TellsBySlot run rows ends 3 (λ xs. sum_total value.width (last_ones reach.back xs)) (carried_by run value)
      (carried_by run out)

-- the same of the numbers that words of a kind stand for, in a width of its own
pub record IsSlotWideSumIn (old new : Net) (rows : SlotRows) (count : Bus) (reach : Reach) (value : Bus) (wide : Wide)
    (out : Bus) : Type 0 where
  pub keeps : Keeps old new
  pub cost : CostsAtMost old new (record {
    nodes = 44;
    registers = 5 + 2 * rows.slot.width + 2 * value.width + 3 * wide.width;
    memories = 2 ^ (rows.slot.width + reach.bits) * value.width + 2 ^ rows.slot.width * wide.width;
  })
  pub bus : IsBus new out
  pub same_width : out.width ≡ wide.width
  pub tells : (run : Run) → IsRun new run → (ends : ℕ → Bool) → AreTold run rows ends → Counts run rows ends count
      → TellsBySlot run rows ends 3 (λ xs. sum_total wide.width (map (widened wide.kind wide.width) (last_ones reach.back xs)))
      (carried_by run value) (carried_by run out)
