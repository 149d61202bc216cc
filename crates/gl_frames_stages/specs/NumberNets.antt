-- How many rows a frame has, in a netlist.
use Rattle.std.specs.Prelude.{◌≡◌, ℕ, suc, ◌+◌, Some, nat_le, if◌then◌else◌}
use Rattle.gl_values.specs.Totals.{count_of}
use Rattle.gl_bits.specs.Words.{sum_of}
use Rattle.gl_net.specs.declared.node.Bus.{Bus}
use Rattle.gl_net.specs.Net.{Net, Run, IsRun, IsBus, Keeps}
use Rattle.gl_frames.specs.Frames.{rows_preceding}
use Rattle.gl_wire.specs.Costs.{Costs, CostsAtMost, nodes_alone}
use Rattle.gl_frames_stages.specs.Columns.{Tells, carried_by}
use Rattle.gl_frames_stages.specs.Framing.{cost_of_number}
use Rattle.gl_frames_stages.specs.declared.lines.Lines.{Lines}

-- one more than a count, in 32 bits
pub record IsOneMoreIn (old new : Net) (count out : Bus) : Type 0 where
  pub keeps : Keeps old new
  pub cost : Costs old new (nodes_alone 4)
  pub bus : IsBus new out
  pub width : out.width ≡ 32
  pub more : (run : Run) → IsRun new run → (t : ℕ) → run.at t out.node ≡ sum_of 32 (run.at t count.node) 1

-- the same, and one more than so many where the count is at least so many
pub record IsAtMostIn (old new : Net) (count : Bus) (back : ℕ) (out : Bus) : Type 0 where
  pub keeps : Keeps old new
  pub cost : Costs old new (nodes_alone 8)
  pub bus : IsBus new out
  pub width : out.width ≡ 32
  pub least : (run : Run) → IsRun new run → (t : ℕ) → run.at (suc t) out.node
      ≡ (if nat_le back (run.at (suc t) count.node) then back + 1 else sum_of 32 (run.at (suc t) count.node) 1)

-- in every run, one cycle behind each row the number of rows of its frame, whatever the column
pub record IsNumberIn (old new : Net) (lines : Lines) (back : ℕ) (out : Bus) : Type 0 where
  pub keeps : Keeps old new
  pub cost : CostsAtMost old new (cost_of_number back)
  pub bus : IsBus new out
  pub width : out.width ≡ 32
  pub tells : (run : Run) → IsRun new run → (column : ℕ → ℕ)
      → Tells run lines 1 (λ xs. count_of (rows_preceding (Some back) xs)) column (carried_by run out)
