-- Rows that come to frames, in a netlist, and what an item makes of them.
use Rattle.std.specs.Prelude.{◌≡◌, ℕ, suc, Option, List, ◌&&◌, if◌then◌else◌}
use Rattle.gl_algebra.specs.Results.{counts_in}
use Rattle.gl_algebra.specs.Values.{Sets}
use Rattle.gl_values.specs.Results.{Row}
use Rattle.gl_net.specs.declared.node.Bus.{Bus}
use Rattle.gl_net.specs.Net.{Net, Run, IsRun, IsBit, IsBus, Keeps}
use Rattle.gl_rows.specs.Made.{IsSource}
use Rattle.gl_wire.specs.Costs.{Cost, CostsAtMost, nodes_alone}
use Rattle.gl_wire.specs.Wire.{line_at, row_at}
use Rattle.gl_frames_stages.specs.Columns.{Tells, carried_by}
use Rattle.gl_frames_stages.specs.declared.input.Input.{Input}
use Rattle.gl_frames_stages.specs.declared.lines.Lines.{Lines}

-- the lines and the columns are in the netlist
pub record HasInput (net : Net) (input : Input) : Type 0 where
  pub valid : IsBit net input.lines.valid
  pub eos : IsBit net input.lines.eos
  pub source : IsSource net input.source.columns.now input.source.kinds.now input.source.words.now

-- the row of a cycle
abbrev pub rows_by : Run → Input → ℕ → Row
rows_by run input t = row_at run t input.source.columns.now

-- lines with the rows alone that pass
pub record IsPassingIn (old new : Net) (input : Input) (filter : Option ℕ) (out : Lines) : Type 0 where
  pub keeps : Keeps old new
  pub cost : CostsAtMost old new (nodes_alone 2)
  pub row_line : IsBit new out.valid
  pub end_line : IsBit new out.eos
  pub same_ends : out.eos ≡ input.lines.eos
  pub passing : (run : Run) → IsRun new run → (t : ℕ) → line_at run out.valid (suc t)
      ≡ (line_at run input.lines.valid (suc t) && counts_in filter (rows_by run input (suc t)))

-- a value where the row passes, and else 0
pub record IsMaskedIn (old new : Net) (input : Input) (filter : Option ℕ) (value out : Bus) : Type 0 where
  pub keeps : Keeps old new
  pub cost : CostsAtMost old new (nodes_alone 3)
  pub bus : IsBus new out
  pub same_width : out.width ≡ value.width
  pub masks : (run : Run) → IsRun new run → (t : ℕ) → run.at (suc t) out.node
      ≡ (if counts_in filter (rows_by run input (suc t)) then run.at (suc t) value.node else 0)

-- a bus that tells, so many cycles behind each row, what an item makes of the rows of the stream up to it, for the words
-- of the parameters that the run holds
pub record IsItemIn (old new : Net) (most : Cost) (cycles width : ℕ) (of : Sets → List Row → ℕ) (input : Input)
    (out : Bus) : Type 0 where
  pub keeps : Keeps old new
  pub cost : CostsAtMost old new most
  pub bus : IsBus new out
  pub same_width : out.width ≡ width
  pub tells : (run : Run) → IsRun new run
      → Tells run input.lines cycles (of run.held) (rows_by run input) (carried_by run out)
