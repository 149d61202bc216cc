-- What a column had so many rows before, in a netlist.
use Rattle.std.specs.Prelude.{◌≡◌, ℕ, suc, ◌+◌, ◌*◌, ◌^◌, false, true, Option, Some, None, if◌then◌else◌}
use Rattle.gl_net.specs.declared.node.Bus.{Bus}
use Rattle.gl_net.specs.Net.{Net, Run, IsRun, IsBit, IsBus, Keeps}
use Rattle.gl_frames.specs.Frames.{row_before}
use Rattle.gl_frames_wire.specs.declared.reach.Reach.{Reach}
use Rattle.gl_wire.specs.Costs.{Costs}
use Rattle.gl_wire.specs.Wire.{line_at}
use Rattle.gl_frames_stages.specs.Columns.{Tells, carried_by, column_of}
use Rattle.gl_frames_stages.specs.declared.lagged.Maybe.{Maybe}
use Rattle.gl_frames_stages.specs.declared.lines.Lines.{Lines}

-- the value in a cycle, where there is one
abbrev pub maybe_at : Run → Maybe → ℕ → Option ℕ
maybe_at run x t = if line_at run x.some t then Some (run.at t x.word.node) else None

-- in every run, from any contents, with each row of each stream what the column had so many rows before it
pub record IsFoundIn (old new : Net) (lines : Lines) (reach : Reach) (value : Bus) (out : Maybe) : Type 0 where
  pub keeps : Keeps old new
  pub cost : Costs old new (record {
    nodes = 17;
    registers = reach.bits + 1;
    memories = 2 ^ reach.bits * value.width;
  })
  pub bit : IsBit new out.some
  pub bus : IsBus new out.word
  pub same_width : out.word.width ≡ value.width
  pub finds : (run : Run) → IsRun new run → (c : ℕ) → line_at run lines.valid (suc c) ≡ true
      → maybe_at run out (suc c) ≡ row_before reach.back (column_of run lines (carried_by run value) (suc c))

-- the same one cycle later, in registers
pub record IsLaggedIn (old new : Net) (lines : Lines) (reach : Reach) (value : Bus) (out : Maybe) : Type 0 where
  pub keeps : Keeps old new
  pub cost : Costs old new (record {
    nodes = 19;
    registers = reach.bits + 2 + value.width;
    memories = 2 ^ reach.bits * value.width;
  })
  pub bit : IsBit new out.some
  pub bus : IsBus new out.word
  pub same_width : out.word.width ≡ value.width
  pub fresh : (run : Run) → IsRun new run → line_at run out.some 1 ≡ false
  pub tells : (run : Run) → IsRun new run
      → Tells run lines 1 (row_before reach.back) (carried_by run value) (maybe_at run out)
