-- The sum of a frame in stages, in a netlist.
use Rattle.std.specs.Prelude.{◌≡◌, ℕ, ◌+◌, ◌*◌, ◌^◌, map}
use Rattle.gl_values.specs.Totals.{sum_total}
use Rattle.gl_values.specs.declared.kind.Kind.{Kind}
use Rattle.gl_net.specs.declared.node.Bus.{Bus}
use Rattle.gl_net.specs.Net.{Net, Run, IsRun, IsBus, Keeps}
use Rattle.gl_frames.specs.Frames.{last_ones}
use Rattle.gl_frames_wire.specs.declared.reach.Reach.{Reach}
use Rattle.gl_wire.specs.Costs.{CostsAtMost}
use Rattle.gl_frames_stages.specs.Columns.{Tells, carried_by}
use Rattle.gl_frames_stages.specs.SlideNets.{widened}
use Rattle.gl_frames_stages.specs.declared.lines.Lines.{Lines}

-- in every run, one cycle behind each row of each stream, the sum of the values up to it
pub record IsSummedIn (old new : Net) (lines : Lines) (value out : Bus) : Type 0 where
  pub keeps : Keeps old new
  pub cost : CostsAtMost old new (record { nodes = 6; registers = 2 * value.width; memories = 0 })
  pub bus : IsBus new out
  pub same_width : out.width ≡ value.width
  pub tells : (run : Run) → IsRun new run
      → Tells run lines 1 (sum_total value.width) (carried_by run value) (carried_by run out)

-- in every run, from any contents, three cycles behind each row the sum of its last values, its own included
pub record IsSlideSumIn (old new : Net) (lines : Lines) (reach : Reach) (value out : Bus) : Type 0 where
  pub keeps : Keeps old new
  pub cost : CostsAtMost old new (record {
    nodes = 34;
    registers = reach.bits + 6 + 5 * value.width;
    memories = 2 ^ reach.bits * value.width;
  })
  pub bus : IsBus new out
  pub same_width : out.width ≡ value.width
  pub tells : (run : Run) → IsRun new run
      → Tells run lines 3 (λ xs. sum_total value.width (last_ones reach.back xs)) (carried_by run value)
      (carried_by run out)

-- the same of the numbers that words of a kind stand for, in a width
pub record IsWideSumIn (old new : Net) (lines : Lines) (reach : Reach) (value : Bus) (kind : Kind) (width : ℕ) (out : Bus)
    : Type 0 where
  pub keeps : Keeps old new
  pub cost : CostsAtMost old new (record {
    nodes = 44;
    registers = reach.bits + 6 + 2 * value.width + 3 * width;
    memories = 2 ^ reach.bits * value.width;
  })
  pub bus : IsBus new out
  pub same_width : out.width ≡ width
  pub tells : (run : Run) → IsRun new run
      → Tells run lines 3 (λ xs. sum_total width (map (widened kind width) (last_ones reach.back xs)))
      (carried_by run value) (carried_by run out)
