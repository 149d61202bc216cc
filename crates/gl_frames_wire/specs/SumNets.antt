-- The sum of a frame in a netlist.
use Rattle.std.specs.Prelude.{◌≡◌, ℕ, suc, ◌+◌, ◌*◌, ◌^◌, true, if◌then◌else◌}
use Rattle.gl_values.specs.Totals.{sum_total}
use Rattle.gl_bits.specs.Words.{difference_of, sum_of}
use Rattle.gl_net.specs.declared.node.Bus.{Bus}
use Rattle.gl_net.specs.declared.node.Bit.{Bit}
use Rattle.gl_net.specs.Net.{Net, Run, IsRun, IsBus, Keeps}
use Rattle.gl_wire.specs.Costs.{Costs, nodes_alone}
use Rattle.gl_wire.specs.Wire.{line_at}
use Rattle.gl_frames.specs.Frames.{last_ones}
use Rattle.gl_frames_wire.specs.CountNets.{values_here}
use Rattle.gl_frames_wire.specs.declared.reach.Reach.{Reach}

-- a sum that goes on by what comes and what leaves, where a row comes
pub record IsSlidIn (old new : Net) (valid : Bit) (before value lag out : Bus) : Type 0 where
  pub keeps : Keeps old new
  pub cost : Costs old new (nodes_alone 3)
  pub bus : IsBus new out
  pub same_width : out.width ≡ before.width
  pub slid : (run : Run) → IsRun new run → (t : ℕ) → run.at (suc t) out.node
      ≡ (if line_at run valid (suc t)
      then difference_of before.width (sum_of before.width (run.at (suc t) before.node) (run.at (suc t) value.node))
      (run.at (suc t) lag.node)
      else run.at (suc t) before.node)

-- in every run, from any contents, with each row of each stream the sum of its last values, this row's included
pub record IsFrameSumIn (old new : Net) (valid eos : Bit) (reach : Reach) (value out : Bus) : Type 0 where
  pub keeps : Keeps old new
  pub cost : Costs old new (record {
    nodes = 25;
    registers = reach.bits + 1 + value.width;
    memories = 2 ^ reach.bits * value.width;
  })
  pub bus : IsBus new out
  pub same_width : out.width ≡ value.width
  pub sums : (run : Run) → IsRun new run → (c : ℕ) → line_at run valid (suc c) ≡ true
      → run.at (suc c) out.node
      ≡ sum_total value.width (last_ones reach.back (values_here run valid eos value (suc c)))
