-- What items make of the rows of each slot, in a netlist: the row's own value, lags, sums, counts, averages and
-- last values.
use Rattle.std.specs.Prelude.{◌≡◌, ℕ, ◌+◌, ◌≤◌, Bool, List, Option, Some, None, ⊤}
use Rattle.gl_algebra.specs.Results.{row_of_frames}
use Rattle.gl_algebra.specs.Values.{Sets}
use Rattle.gl_algebra.specs.declared.node.PlanFrame.{PlanFrame}
use Rattle.gl_algebra.specs.declared.node.PlanFrame.TheVariants.{Lag, Over, Own}
use Rattle.gl_algebra.specs.declared.node.PlanFrameAgg.{PlanFrameAgg}
use Rattle.gl_algebra.specs.declared.node.PlanFrameAgg.TheVariants.{Avg, Count, LastValue, Max, Min, Sum}
use Rattle.gl_values.specs.Results.{Row}
use Rattle.gl_net.specs.declared.node.Bus.{Bus}
use Rattle.gl_net.specs.Net.{Net, Run, IsRun, IsBus, Keeps}
use Rattle.gl_frames_stages.specs.Columns.{carried_by}
use Rattle.gl_frames_stages.specs.FramesNets.{frames_widths}
use Rattle.gl_frames_wire.specs.Reaches.{place_bits}
use Rattle.gl_rows.specs.Made.{IsSource}
use Rattle.gl_wire.specs.Costs.{Cost, CostsAtMost}
use Rattle.gl_wire.specs.Wire.{AreBuses, row_at, widths}
use Rattle.gl_frames_slots.specs.CountNets.{Counts}
use Rattle.gl_frames_slots.specs.ItemCosts.{cost_of_slot_items}
use Rattle.gl_frames_slots.specs.Rows.{AreTold, HasSlotRows, TellsBySlot}
use Rattle.gl_frames_slots.specs.declared.items.SlotInput.{SlotInput}

-- a ring that reaches to what leaves a frame of so many rows has a place of at most so many bits; one of all has no ring
abbrev pub ReachFits : ℕ → Option ℕ → Type 0
ReachFits bits None = ⊤
ReachFits bits (Some back) = place_bits (back + 1) ≤ bits

-- a function over a frame: the ring of its last rows, where it has one
abbrev pub IsSlotOver : ℕ → PlanFrameAgg → Option ℕ → Option ℕ → Type 0
IsSlotOver bits (Sum operand) by back = ReachFits bits back
IsSlotOver bits Count by back = ReachFits bits back
IsSlotOver bits (Avg operand) by back = ReachFits bits back
IsSlotOver bits (Min operand) by back = ReachFits bits back
IsSlotOver bits (Max operand) by back = ReachFits bits back
IsSlotOver bits (LastValue operand) by back = ⊤

-- an item whose rings by slots have places of at most so many bits
abbrev pub IsSlotItem : ℕ → PlanFrame → Type 0
IsSlotItem bits (Own operand) = ⊤
IsSlotItem bits (Lag operand back) = place_bits back ≤ bits
IsSlotItem bits (Over agg by back) = IsSlotOver bits agg by back

-- the lines and the columns are in the netlist
pub record HasSlotInput (net : Net) (input : SlotInput) : Type 0 where
  pub rows : HasSlotRows net input.rows
  pub source : IsSource net input.source.columns.now input.source.kinds.now input.source.words.now

-- the row of a cycle
abbrev pub rows_in : Run → SlotInput → ℕ → Row
rows_in run input t = row_at run t input.source.columns.now

-- a bus that tells, so many cycles behind each row, what an item makes of the rows of this row's slot up to it, for
-- the words of the parameters that the run holds
pub record IsSlotItemIn (old new : Net) (most : Cost) (cycles width : ℕ) (of : Sets → List Row → ℕ)
    (input : SlotInput) (count out : Bus) : Type 0 where
  pub keeps : Keeps old new
  pub cost : CostsAtMost old new most
  pub bus : IsBus new out
  pub same_width : out.width ≡ width
  pub tells : (run : Run) → IsRun new run → (ends : ℕ → Bool) → AreTold run input.rows ends
      → Counts run input.rows ends count
      → TellsBySlot run input.rows ends cycles (of run.held) (rows_in run input) (carried_by run out)

-- a bus for each of some items, so many cycles behind each row
pub record AreSlotItemsIn (old new : Net) (input : SlotInput) (count : Bus) (cycles : ℕ) (items : List PlanFrame)
    (outs : List Bus) : Type 0 where
  pub keeps : Keeps old new
  pub cost : CostsAtMost old new (cost_of_slot_items input.rows.slot.width input.source.kinds.now cycles items)
  pub buses : AreBuses new outs
  pub same_widths : widths outs ≡ frames_widths input.source.kinds.now items
  pub row : (run : Run) → IsRun new run → (ends : ℕ → Bool) → AreTold run input.rows ends
      → Counts run input.rows ends count
      → TellsBySlot run input.rows ends cycles (row_of_frames run.held input.source.kinds.now items)
      (rows_in run input) (λ t. row_at run t outs)
