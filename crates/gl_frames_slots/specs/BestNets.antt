-- The best of the last words of each slot by doubling, in a netlist.
use Rattle.std.specs.Prelude.{◌≡◌, ℕ, zero, suc, ◌+◌, ◌*◌, ◌^◌, Bool, Some, nat_le, if◌then◌else◌}
use Rattle.gl_algebra.specs.Frames.{delay_of_extreme}
use Rattle.gl_net.specs.declared.node.Bus.{Bus}
use Rattle.gl_net.specs.Net.{Net, Run, IsRun, IsBus, Keeps}
use Rattle.gl_frames.specs.Frames.{lag_of, row_before}
use Rattle.gl_frames_stages.specs.Columns.{carried_by}
use Rattle.gl_frames_stages.specs.DoublingNets.{doublings, gap_of}
use Rattle.gl_frames_stages.specs.Laws.{best_in, itself, picked}
use Rattle.gl_frames_stages.specs.LevelNets.{better_in, nodes_of_stays}
use Rattle.gl_frames_stages.specs.declared.doubling.Windows.{Windows}
use Rattle.gl_frames_stages.specs.declared.level.Order.{Order}
use Rattle.gl_frames_wire.specs.Reaches.{place_bits}
use Rattle.gl_frames_wire.specs.declared.reach.Reach.{Reach}
use Rattle.gl_wire.specs.Costs.{Cost, CostsAtMost}
use Rattle.gl_frames_slots.specs.CountNets.{Counts}
use Rattle.gl_frames_slots.specs.Rows.{AreTold, TellsBySlot}
use Rattle.gl_frames_slots.specs.declared.stages.CountedRows.{CountedRows}

-- in every run, from any contents, two cycles behind each row the better of what the column had so many rows of its slot
-- before, if it had so many, and of what it has
pub record IsSlotLevelIn (old new : Net) (counted : CountedRows) (reach : Reach) (order : Order) (value out : Bus) : Type 0 where
  pub keeps : Keeps old new
  pub cost : CostsAtMost old new (record {
    nodes = 16 + nodes_of_stays order;
    registers = 2 + 4 * value.width;
    memories = 2 ^ (counted.rows.slot.width + reach.bits) * value.width;
  })
  pub bus : IsBus new out
  pub same_width : out.width ≡ value.width
  pub tells : (run : Run) → IsRun new run → (ends : ℕ → Bool) → AreTold run counted.rows ends
      → Counts run counted.rows ends counted.count
      → TellsBySlot run counted.rows ends 2 (λ xs. picked (better_in order) (row_before reach.back xs) (lag_of itself 0 xs))
      (carried_by run value) (carried_by run out)

-- what a level costs for slots of so many bits, with the gates that tell which word is kept, and behind it the rows and a
-- count of 18 bits
abbrev pub with_slot_level : ℕ → ℕ → ℕ → ℕ → Cost → Cost
with_slot_level slot gates gap width rest = record {
  nodes = 24 + gates + rest.nodes;
  registers = 42 + 2 * slot + 4 * width + rest.registers;
  memories = 2 ^ (slot + place_bits gap) * width + rest.memories;
}

-- what all levels cost
abbrev pub cost_of_slot_doublings : ℕ → ℕ → ℕ → ℕ → ℕ → ℕ → Cost
cost_of_slot_doublings slot gates zero rows all width = record { nodes = 0; registers = 0; memories = 0 }
cost_of_slot_doublings slot gates (suc more) rows all width =
    if nat_le all rows then record { nodes = 0; registers = 0; memories = 0 }
    else with_slot_level slot gates (gap_of rows all) width
    (cost_of_slot_doublings slot gates more (rows + gap_of rows all) all width)

-- in every run, from any contents: where a column has with each row the best of so many rows of its slot, two cycles a
-- doubling later the best of all rows of the frame
pub record IsSlotDoubledIn (old new : Net) (counted : CountedRows) (more : ℕ) (windows : Windows) (order : Order)
    (value out : Bus) : Type 0 where
  pub keeps : Keeps old new
  pub cost : CostsAtMost old new
      (cost_of_slot_doublings counted.rows.slot.width (nodes_of_stays order) more windows.rows windows.all value.width)
  pub bus : IsBus new out
  pub same_width : out.width ≡ value.width
  pub tells : (run : Run) → IsRun new run → (ends : ℕ → Bool) → AreTold run counted.rows ends
      → Counts run counted.rows ends counted.count → (row : ℕ → ℕ)
      → TellsBySlot run counted.rows ends 0 (best_in (better_in order) windows.rows) row (carried_by run value)
      → TellsBySlot run counted.rows ends (2 * doublings more windows.rows windows.all)
      (best_in (better_in order) windows.all) row (carried_by run out)

-- in every run, from any contents, with each row the best word of its frame, so many cycles later
pub record IsSlotBestIn (old new : Net) (counted : CountedRows) (back : ℕ) (order : Order) (value out : Bus) : Type 0 where
  pub keeps : Keeps old new
  pub cost : CostsAtMost old new (
      let levels = cost_of_slot_doublings counted.rows.slot.width (nodes_of_stays order) back 1 (back + 1) value.width in
      record { nodes = levels.nodes + 1; registers = levels.registers + value.width; memories = levels.memories })
  pub bus : IsBus new out
  pub same_width : out.width ≡ value.width
  pub tells : (run : Run) → IsRun new run → (ends : ℕ → Bool) → AreTold run counted.rows ends
      → Counts run counted.rows ends counted.count
      → TellsBySlot run counted.rows ends (delay_of_extreme (Some back)) (best_in (better_in order) (suc back))
      (carried_by run value) (carried_by run out)
