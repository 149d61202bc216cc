-- Extremes of the rows of each slot that pass, in a netlist.
use Rattle.std.specs.Prelude.{◌≡◌, ℕ, suc, ◌+◌, ◌*◌, ◌%◌, ◌^◌, Bool, List, Option, fold}
use Rattle.gl_algebra.specs.Columns.{kind_of_operand}
use Rattle.gl_algebra.specs.Results.{counts_in}
use Rattle.gl_algebra.specs.declared.node.Operand.{Operand}
use Rattle.gl_values.specs.Kinds.{width_of}
use Rattle.gl_net.specs.declared.node.Bus.{Bus}
use Rattle.gl_net.specs.Net.{Net, Run, IsRun, IsBus, Keeps}
use Rattle.gl_frames_stages.specs.Columns.{carried_by}
use Rattle.gl_frames_stages.specs.FilteredNets.{if_passes, pack}
use Rattle.gl_frames_stages.specs.Framing.{value_in}
use Rattle.gl_frames_stages.specs.LevelNets.{better_in}
use Rattle.gl_frames_stages.specs.declared.level.Order.{Order}
use Rattle.gl_wire.specs.Costs.{CostsAtMost, nodes_alone}
use Rattle.gl_frames_slots.specs.Items.{rows_in}
use Rattle.gl_frames_slots.specs.Rows.{AreTold, TellsBySlot}
use Rattle.gl_frames_slots.specs.declared.items.SlotInput.{SlotInput}
use Rattle.gl_frames_slots.specs.declared.rows.SlotRows.{SlotRows}

-- a bus of words of the rows with a bit above the value, which is 1 where the row passes
pub record IsSlotPackedIn (old new : Net) (input : SlotInput) (by : Option ℕ) (operand : Operand) (out : Bus) : Type 0 where
  pub keeps : Keeps old new
  pub cost : CostsAtMost old new (nodes_alone 6)
  pub bus : IsBus new out
  pub width : out.width ≡ width_of (kind_of_operand input.source.kinds.now operand) + 1
  pub values : (run : Run) → IsRun new run → (t : ℕ)
      → value_in run.held operand (rows_in run input (suc t))
      ≡ value_in run.held operand (rows_in run input (suc t))
      % 2 ^ width_of (kind_of_operand input.source.kinds.now operand)
  pub packs : (run : Run) → IsRun new run → (t : ℕ) → run.at (suc t) out.node
      ≡ pack (width_of (kind_of_operand input.source.kinds.now operand))
      (if_passes (width_of (kind_of_operand input.source.kinds.now operand)) (counts_in by) (value_in run.held operand)
      (rows_in run input (suc t)))

-- the best of some words, from 0 on
abbrev pub best_from_none : (ℕ → ℕ → ℕ) → List ℕ → ℕ
best_from_none op xs = fold op 0 xs

-- in every run, from any contents, with each row the best word of its slot so far
pub record IsSlotBestSoFarIn (old new : Net) (rows : SlotRows) (order : Order) (value out : Bus) : Type 0 where
  pub keeps : Keeps old new
  pub cost : CostsAtMost old new (record {
    nodes = 23;
    registers = value.width;
    memories = 2 ^ rows.slot.width * value.width;
  })
  pub bus : IsBus new out
  pub same_width : out.width ≡ value.width
  pub tells : (run : Run) → IsRun new run → (ends : ℕ → Bool) → AreTold run rows ends
      → TellsBySlot run rows ends 0 (best_from_none (better_in order)) (carried_by run value) (carried_by run out)
