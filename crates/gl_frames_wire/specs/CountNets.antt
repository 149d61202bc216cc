-- The count of a ring in a netlist.
use Rattle.std.specs.Prelude.{◌≡◌, ℕ, suc, ◌+◌, ◌^◌, true, List, length, if◌then◌else◌}
use Rattle.gl_net.specs.declared.node.Bus.{Bus}
use Rattle.gl_net.specs.declared.node.Bit.{Bit}
use Rattle.gl_net.specs.Net.{Net, Run, IsRun, IsBus, Keeps}
use Rattle.gl_wire.specs.Costs.{Costs, nodes_alone}
use Rattle.gl_wire.specs.Wire.{line_at}
use Rattle.gl_wire_lanes.specs.Lanes.{Lane, single}
use Rattle.gl_frames_wire.specs.Rings.{wind, wound}
use Rattle.gl_frames_wire.specs.Since.{own_ends, rows_here, rows_past}

-- streams one after another, by a line of rows and a line of ends
abbrev pub streams_by : Run → Bit → Bit → Lane
streams_by run valid eos = single (line_at run valid) (line_at run eos)

-- what a column has with the rows of the open stream, before this cycle's row
abbrev pub column_past : {B : Type 0} → Run → Bit → Bit → (ℕ → B) → ℕ → List B
column_past run valid eos column c = rows_past (own_ends (streams_by run valid eos)) (streams_by run valid eos) column c

-- and with this cycle's row
abbrev pub column_here : {B : Type 0} → Run → Bit → Bit → (ℕ → B) → ℕ → List B
column_here run valid eos column c = rows_here (own_ends (streams_by run valid eos)) (streams_by run valid eos) column c

-- the values of a bus with the rows of the open stream, this cycle's included
abbrev pub values_here : Run → Bit → Bit → Bus → ℕ → List ℕ
values_here run valid eos value c = column_here run valid eos (λ t. run.at t value.node) c

-- a count with this cycle's row: one more, or the size again
pub record IsWoundIn (old new : Net) (valid : Bit) (count : Bus) (size : ℕ) (out : Bus) : Type 0 where
  pub keeps : Keeps old new
  pub cost : Costs old new (nodes_alone 7)
  pub bus : IsBus new out
  pub same_width : out.width ≡ count.width
  pub with_row : (run : Run) → IsRun new run → (t : ℕ)
      → run.at (suc t) out.node
      ≡ (if line_at run valid (suc t) then wind size (run.at (suc t) count.node) else run.at (suc t) count.node)

-- with each row the number of those before it in its stream, which goes round above the size of the ring
pub record IsCountIn (old new : Net) (valid eos : Bit) (bits : ℕ) (out : Bus) : Type 0 where
  pub keeps : Keeps old new
  pub cost : Costs old new (record { nodes = 10; registers = bits + 1; memories = 0 })
  pub bus : IsBus new out
  pub width : out.width ≡ bits + 1
  pub counts : (run : Run) → IsRun new run → (column : ℕ → ℕ) (c : ℕ) → line_at run valid (suc c) ≡ true
      → run.at (suc c) out.node ≡ wound (2 ^ bits) (length (column_past run valid eos column (suc c)))
