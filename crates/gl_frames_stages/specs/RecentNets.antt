-- The last value that passes among the last rows, in a netlist.
use Rattle.std.specs.Prelude.{◌≡◌, ℕ, suc, ◌+◌, ◌*◌, Bool, true, List, Some, fold, ◌&&◌, nat_le, if◌then◌else◌}
use Rattle.gl_values.specs.Results.{Row}
use Rattle.gl_net.specs.declared.node.Bus.{Bus}
use Rattle.gl_net.specs.declared.node.Bit.{Bit}
use Rattle.gl_net.specs.Net.{Net, Run, IsRun, IsBit, IsBus, Keeps}
use Rattle.gl_frames.specs.Frames.{last_value_of}
use Rattle.gl_frames_wire.specs.CountNets.{column_past}
use Rattle.gl_frames_wire.specs.Reaches.{place_bits}
use Rattle.gl_wire.specs.Costs.{Costs, nodes_alone}
use Rattle.gl_wire.specs.Wire.{line_at}
use Rattle.gl_frames_stages.specs.Columns.{Tells, carried_by}
use Rattle.gl_frames_stages.specs.declared.lines.Lines.{Lines}

-- how many rows stand behind the last one that passes, or how many there are where none passes
abbrev pub age : {B : Type 0} → (B → Bool) → List B → ℕ
age passes xs = fold (λ n x. if passes x then 0 else suc n) 0 xs

-- a line is 1 with each row that passes
abbrev pub Takes : {B : Type 0} → Run → Lines → Bit → (B → Bool) → (ℕ → B) → Type 0
Takes run lines takes passes row =
    (t : ℕ) → line_at run takes (suc t) ≡ (line_at run lines.valid (suc t) && passes (row (suc t)))

-- in every run, whether the last row that passes is so old, before each row
pub record IsAgeIn (old new : Net) (lines : Lines) (takes : Bit) (back : ℕ) (out : Bit) : Type 0 where
  pub keeps : Keeps old new
  pub cost : Costs old new (record { nodes = 13; registers = place_bits (back + 1) + 1; memories = 0 })
  pub bit : IsBit new out
  pub ages : (run : Run) → IsRun new run → (passes : Row → Bool) (row : ℕ → Row) → Takes run lines takes passes row
      → (c : ℕ) → line_at run lines.valid (suc c) ≡ true
      → line_at run out (suc c) ≡ nat_le back (age passes (column_past run lines.valid lines.eos row (suc c)))

-- the value where a line is 1, and else another, or 0 where that is old
pub record IsYoungIn (old new : Net) (passes aged : Bit) (value before out : Bus) : Type 0 where
  pub keeps : Keeps old new
  pub cost : Costs old new (nodes_alone 3)
  pub bus : IsBus new out
  pub same_width : out.width ≡ value.width
  pub chosen : (run : Run) → IsRun new run → (t : ℕ) → run.at (suc t) out.node
      ≡ (if line_at run passes (suc t) then run.at (suc t) value.node
      else if line_at run aged (suc t) then 0 else run.at (suc t) before.node)

-- in every run, from any contents, one cycle behind each row the last value that passes of its frame
pub record IsRecentIn (old new : Net) (lines : Lines) (passes : Bit) (value : Bus) (back : ℕ) (out : Bus) : Type 0 where
  pub keeps : Keeps old new
  pub cost : Costs old new (record {
    nodes = 22;
    registers = place_bits (back + 1) + 1 + 2 * value.width;
    memories = 0;
  })
  pub bus : IsBus new out
  pub same_width : out.width ≡ value.width
  pub tells : (run : Run) → IsRun new run → (p : Row → Bool) (v : Row → ℕ) (row : ℕ → Row)
      → ((t : ℕ) → line_at run passes (suc t) ≡ p (row (suc t))) → ((t : ℕ) → run.at (suc t) value.node ≡ v (row (suc t)))
      → Tells run lines 1 (last_value_of v (Some back) p) row (carried_by run out)
