-- Extremes of the rows that pass, in a netlist.
use Rattle.std.specs.Prelude.{◌≡◌, ℕ, suc, ◌+◌, ◌%◌, ◌^◌, Option, Some, None, Bool, if◌then◌else◌}
use Rattle.gl_algebra.specs.Results.{counts_in}
use Rattle.gl_algebra.specs.Columns.{kind_of_operand}
use Rattle.gl_algebra.specs.declared.node.Operand.{Operand}
use Rattle.gl_values.specs.Kinds.{width_of}
use Rattle.gl_net.specs.declared.node.Bus.{Bus}
use Rattle.gl_net.specs.Net.{Net, Run, IsRun, IsBus, Keeps}
use Rattle.gl_wire.specs.Costs.{Cost, CostsAtMost, nodes_alone}
use Rattle.gl_frames_stages.specs.DoublingNets.{cost_of_doublings}
use Rattle.gl_frames_stages.specs.Framing.{value_in}
use Rattle.gl_frames_stages.specs.Inputs.{rows_by}
use Rattle.gl_frames_stages.specs.declared.input.Input.{Input}

-- a word with a bit above its value, which is 1 where there is a value
abbrev pub pack : ℕ → Option ℕ → ℕ
pack w None = 0
pack w (Some x) = 2 ^ w + x

-- the value of a row that passes, in a width
abbrev pub if_passes : {B : Type 0} → ℕ → (B → Bool) → (B → ℕ) → B → Option ℕ
if_passes w passes value row = if passes row then Some (value row % 2 ^ w) else None

-- a bus of such words of the rows
pub record IsPackedIn (old new : Net) (input : Input) (column : ℕ) (operand : Operand) (out : Bus) : Type 0 where
  pub keeps : Keeps old new
  pub cost : CostsAtMost old new (nodes_alone 6)
  pub bus : IsBus new out
  pub width : out.width ≡ width_of (kind_of_operand input.source.kinds.now operand) + 1
  pub values : (run : Run) → IsRun new run → (t : ℕ)
      → value_in run.held operand (rows_by run input (suc t))
      ≡ value_in run.held operand (rows_by run input (suc t))
      % 2 ^ width_of (kind_of_operand input.source.kinds.now operand)
  pub packs : (run : Run) → IsRun new run → (t : ℕ) → run.at (suc t) out.node
      ≡ pack (width_of (kind_of_operand input.source.kinds.now operand))
      (if_passes (width_of (kind_of_operand input.source.kinds.now operand)) (counts_in (Some column))
      (value_in run.held operand)
      (rows_by run input (suc t)))

-- such words, all levels of doubling of them, and a cut
abbrev pub cost_of_filtered_extreme : ℕ → ℕ → Cost
cost_of_filtered_extreme width back = record {
  nodes = (cost_of_doublings 12 back 1 (back + 1) (width + 1)).nodes + 9;
  registers = (cost_of_doublings 12 back 1 (back + 1) (width + 1)).registers + width + 1;
  memories = (cost_of_doublings 12 back 1 (back + 1) (width + 1)).memories;
}
