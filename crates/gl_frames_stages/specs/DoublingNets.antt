-- Doubling in a netlist: from the best of one row that of all rows of a frame.
use Rattle.std.specs.Prelude.{◌≡◌, ℕ, zero, suc, ◌+◌, ◌-◌, ◌*◌, ◌^◌, ◌≤◌, Some, min, nat_le, if◌then◌else◌}
use Rattle.gl_algebra.specs.Frames.{delay_of_extreme}
use Rattle.gl_algebra.specs.Rings.{digits}
use Rattle.gl_net.specs.declared.node.Bus.{Bus}
use Rattle.gl_net.specs.Net.{Net, Run, IsRun, IsBus, Keeps}
use Rattle.gl_frames_wire.specs.Reaches.{place_bits}
use Rattle.gl_wire.specs.Costs.{Cost, CostsAtMost}
use Rattle.gl_frames_stages.specs.Columns.{Tells, carried_by}
use Rattle.gl_frames_stages.specs.Laws.{best_in}
use Rattle.gl_frames_stages.specs.LevelNets.{better_in, nodes_of_stays}
use Rattle.gl_frames_stages.specs.declared.doubling.Windows.{Windows}
use Rattle.gl_frames_stages.specs.declared.level.Order.{Order}
use Rattle.gl_frames_stages.specs.declared.lines.Lines.{Lines}

-- there is a row, and no more than so many are to come
pub record AreWindows (more : ℕ) (windows : Windows) : Type 0 where
  pub some' : 1 ≤ windows.rows
  pub inside : windows.rows ≤ windows.all
  pub few : windows.all ≤ windows.rows + more
  pub most : windows.all ≤ 2 ^ 16

-- how far the earlier of two windows of so many rows ends before the row: as far as all rows ask for, and no farther
-- than the windows have rows
abbrev pub gap_of : ℕ → ℕ → ℕ
gap_of rows all = min rows (all - rows)

-- how often so many rows are doubled until they are all, for no more than `more` rows to come
abbrev pub doublings : ℕ → ℕ → ℕ → ℕ
doublings zero rows all = 0
doublings (suc more) rows all = if nat_le all rows then 0 else suc (doublings more (rows + gap_of rows all) all)

-- one row is doubled as often as the number of rows before the last one has bits
abbrev pub DoublingsAreBits : Type 0
DoublingsAreBits = (back : ℕ) → doublings back 1 (back + 1) ≡ digits back

-- what a level costs, with the gates that tell which word is kept, and the lines behind it
abbrev pub with_level : ℕ → ℕ → ℕ → Cost → Cost
with_level gates gap width rest = record {
  nodes = 28 + gates + rest.nodes;
  registers = place_bits gap + 7 + 4 * width + rest.registers;
  memories = 2 ^ place_bits gap * width + rest.memories;
}

-- what all levels cost
abbrev pub cost_of_doublings : ℕ → ℕ → ℕ → ℕ → ℕ → Cost
cost_of_doublings gates zero rows all width = record { nodes = 0; registers = 0; memories = 0 }
cost_of_doublings gates (suc more) rows all width =
    if nat_le all rows then record { nodes = 0; registers = 0; memories = 0 }
    else with_level gates (gap_of rows all) width (cost_of_doublings gates more (rows + gap_of rows all) all width)

-- in every run, from any contents: where a column has with each row the best of so many rows of another one, two cycles
-- a doubling later the best of all rows of the frame
pub record IsDoubledIn (old new : Net) (lines : Lines) (more : ℕ) (windows : Windows) (order : Order) (value out : Bus)
    : Type 0 where
  pub keeps : Keeps old new
  pub cost : CostsAtMost old new (cost_of_doublings (nodes_of_stays order) more windows.rows windows.all value.width)
  pub bus : IsBus new out
  pub same_width : out.width ≡ value.width
  pub tells : (run : Run) → IsRun new run → (row : ℕ → ℕ)
      → Tells run lines 0 (best_in (better_in order) windows.rows) row (carried_by run value)
      → Tells run lines (2 * doublings more windows.rows windows.all) (best_in (better_in order) windows.all) row
      (carried_by run out)

-- in every run, from any contents, with each row the best word of its frame, so many cycles later
pub record IsFrameBestIn (old new : Net) (lines : Lines) (back : ℕ) (order : Order) (value out : Bus) : Type 0 where
  pub keeps : Keeps old new
  pub cost : CostsAtMost old new (record {
    nodes = (cost_of_doublings (nodes_of_stays order) back 1 (back + 1) value.width).nodes + 1;
    registers = (cost_of_doublings (nodes_of_stays order) back 1 (back + 1) value.width).registers + value.width;
    memories = (cost_of_doublings (nodes_of_stays order) back 1 (back + 1) value.width).memories;
  })
  pub bus : IsBus new out
  pub same_width : out.width ≡ value.width
  pub tells : (run : Run) → IsRun new run
      → Tells run lines (delay_of_extreme (Some back)) (best_in (better_in order) (suc back)) (carried_by run value)
      (carried_by run out)
