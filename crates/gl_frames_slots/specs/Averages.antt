-- The average of the rows of each slot, in a netlist: the fraction that is divided.
use Rattle.std.specs.Prelude.{◌≡◌, ℕ, suc, ◌+◌, ◌%◌, ◌^◌, Bool, Option, Some, None}
use Rattle.gl_algebra.specs.Columns.{kind_of_operand}
use Rattle.gl_algebra.specs.Results.{counts_in, values_in}
use Rattle.gl_algebra.specs.Rings.{digits}
use Rattle.gl_algebra.specs.declared.node.Operand.{Operand}
use Rattle.gl_values.specs.Kinds.{width_of, word_of}
use Rattle.gl_values.specs.Totals.{count_of, sum_of_numbers}
use Rattle.gl_net.specs.declared.node.Bus.{Bus}
use Rattle.gl_net.specs.Net.{Net, Run, IsRun, IsBus, Keeps}
use Rattle.gl_frames.specs.Frames.{frame_of}
use Rattle.gl_frames_stages.specs.Average.{framed_values}
use Rattle.gl_frames_stages.specs.Columns.{carried_by}
use Rattle.gl_frames_stages.specs.Framing.{value_in}
use Rattle.gl_totals.specs.declared.average.Fraction.{Fraction}
use Rattle.gl_wire.specs.Costs.{CostsAtMost}
use Rattle.gl_frames_slots.specs.CountNets.{Counts}
use Rattle.gl_frames_slots.specs.ItemCosts.{cost_of_slot_fraction, cost_of_slot_whole_fraction}
use Rattle.gl_frames_slots.specs.Items.{rows_in}
use Rattle.gl_frames_slots.specs.Rows.{AreTold, TellsBySlot}
use Rattle.gl_frames_slots.specs.declared.items.SlotInput.{SlotInput}

-- three cycles behind each row, the sum of the numbers of the rows of its slot that are in its frame and pass, and how
-- many they are
pub record IsSlotFraction (old new : Net) (input : SlotInput) (count : Bus) (by : Option ℕ) (operand : Operand) (back : ℕ)
    (f : Fraction) : Type 0 where
  pub keeps : Keeps old new
  pub cost : CostsAtMost old new
      (cost_of_slot_fraction input.rows.slot.width (width_of (kind_of_operand input.source.kinds.now operand)) back)
  pub top : IsBus new f.top
  pub top_width : f.top.width ≡ width_of (kind_of_operand input.source.kinds.now operand) + digits (back + 1)
  pub bottom : IsBus new f.bottom
  pub bottom_width : f.bottom.width ≡ digits (back + 1)
  pub values : (run : Run) → IsRun new run → (t : ℕ)
      → value_in run.held operand (rows_in run input (suc t))
      % 2 ^ width_of (kind_of_operand input.source.kinds.now operand)
      ≡ value_in run.held operand (rows_in run input (suc t))
  pub sums : (run : Run) → IsRun new run → (ends : ℕ → Bool) → AreTold run input.rows ends
      → Counts run input.rows ends count
      → TellsBySlot run input.rows ends 3
      (λ rows. word_of (width_of (kind_of_operand input.source.kinds.now operand) + digits (back + 1))
      (sum_of_numbers (kind_of_operand input.source.kinds.now operand) (framed_values run.held operand by back rows)))
      (rows_in run input) (carried_by run f.top)
  pub numbers : (run : Run) → IsRun new run → (ends : ℕ → Bool) → AreTold run input.rows ends
      → Counts run input.rows ends count
      → TellsBySlot run input.rows ends 3 (λ rows. count_of (frame_of (Some back) (counts_in by) rows))
      (rows_in run input) (carried_by run f.bottom)

-- one cycle behind each row, the sum of the numbers of all rows of its slot so far that pass, in 32 bits more than they
-- have, and how many they are
pub record IsSlotWholeFraction (old new : Net) (input : SlotInput) (count : Bus) (by : Option ℕ) (operand : Operand)
    (f : Fraction) : Type 0 where
  pub keeps : Keeps old new
  pub cost : CostsAtMost old new
      (cost_of_slot_whole_fraction input.rows.slot.width (width_of (kind_of_operand input.source.kinds.now operand)))
  pub top : IsBus new f.top
  pub top_width : f.top.width ≡ width_of (kind_of_operand input.source.kinds.now operand) + 32
  pub bottom : IsBus new f.bottom
  pub bottom_width : f.bottom.width ≡ 32
  pub sums : (run : Run) → IsRun new run → (ends : ℕ → Bool) → AreTold run input.rows ends
      → TellsBySlot run input.rows ends 1
      (λ rows. word_of (width_of (kind_of_operand input.source.kinds.now operand) + 32)
      (sum_of_numbers (kind_of_operand input.source.kinds.now operand) (values_in run.held by None rows operand)))
      (rows_in run input) (carried_by run f.top)
  pub numbers : (run : Run) → IsRun new run → (ends : ℕ → Bool) → AreTold run input.rows ends
      → Counts run input.rows ends count
      → TellsBySlot run input.rows ends 1 (λ rows. count_of (values_in run.held by None rows operand))
      (rows_in run input)
      (carried_by run f.bottom)
