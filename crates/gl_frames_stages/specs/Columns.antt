-- Columns of streams one after another, and what one tells of another, some cycles later.
use Rattle.std.specs.Prelude.{◌≡◌, ℕ, suc, ◌+◌, ◌*◌, true, List}
use Rattle.gl_net.specs.Net.{Net, Run, IsRun, IsBit, Keeps}
use Rattle.gl_net.specs.declared.node.Bus.{Bus}
use Rattle.gl_divide.specs.Divider.{IsLineBehind}
use Rattle.gl_frames_wire.specs.CountNets.{column_here}
use Rattle.gl_wire.specs.Costs.{Costs}
use Rattle.gl_wire.specs.Wire.{line_at}
use Rattle.gl_frames_stages.specs.declared.lines.Lines.{Lines}

-- what a column has with the rows of the open stream, this cycle's included
abbrev pub column_of : {B : Type 0} → Run → Lines → (ℕ → B) → ℕ → List B
column_of run lines column c = column_here run lines.valid lines.eos column c

-- what a bus carries in each cycle
abbrev pub carried_by : Run → Bus → ℕ → ℕ
carried_by run bus t = run.at t bus.node

-- with each row a column tells, so many cycles later, what `of` makes of what another column had up to that row
abbrev pub Tells : {A B : Type 0} → Run → Lines → ℕ → (List B → A) → (ℕ → B) → (ℕ → A) → Type 0
Tells run lines m of row made =
    (c : ℕ) → line_at run lines.valid (suc c) ≡ true → made (suc c + m) ≡ of (column_of run lines row (suc c))

-- lines so many cycles behind others
pub record LinesBehind (run : Run) (m : ℕ) (lines later : Lines) : Type 0 where
  pub rows : IsLineBehind run m lines.valid later.valid
  pub ends : IsLineBehind run m lines.eos later.eos

-- lines so many cycles behind others, and what their registers cost
pub record AreLinesBehind (old new : Net) (cycles : ℕ) (lines later : Lines) : Type 0 where
  pub keeps : Keeps old new
  pub cost : Costs old new (record { nodes = 2 * cycles; registers = 2 * cycles; memories = 0 })
  pub row_line : IsBit new later.valid
  pub end_line : IsBit new later.eos
  pub behind : (run : Run) → IsRun new run → LinesBehind run cycles lines later
