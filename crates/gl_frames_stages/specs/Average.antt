-- The average of the last rows: how wide its sum is, what its fraction carries, and what it costs at most.
use Rattle.std.specs.Prelude.{◌≡◌, ℕ, suc, ◌+◌, ◌*◌, ◌%◌, ◌^◌, List, Option, Some, map}
use Rattle.gl_algebra.specs.Values.{Sets}
use Rattle.gl_algebra.specs.Results.{counts_in}
use Rattle.gl_algebra.specs.Columns.{kind_of_operand}
use Rattle.gl_algebra.specs.Rings.{digits}
use Rattle.gl_algebra.specs.declared.node.Operand.{Operand}
use Rattle.gl_values.specs.Kinds.{width_of, word_of}
use Rattle.gl_values.specs.Results.{Row}
use Rattle.gl_values.specs.Totals.{count_of, sum_of_numbers}
use Rattle.gl_net.specs.Net.{Net, Run, IsRun, IsBus, Keeps}
use Rattle.gl_frames.specs.Frames.{frame_of}
use Rattle.gl_frames_wire.specs.Reaches.{place_bits}
use Rattle.gl_totals.specs.Costs.{cost_of_quotient}
use Rattle.gl_totals.specs.declared.average.Fraction.{Fraction}
use Rattle.gl_wire.specs.Costs.{Cost, CostsAtMost}
use Rattle.gl_frames_stages.specs.Columns.{Tells, carried_by}
use Rattle.gl_frames_stages.specs.Framing.{value_in}
use Rattle.gl_frames_stages.specs.Inputs.{rows_by}
use Rattle.gl_frames_stages.specs.declared.input.Input.{Input}

-- the number of rows of a frame three cycles later: the sum of the bits of a FILTER, or a count in two registers more
abbrev pub cost_of_frame_number : ℕ → Cost
cost_of_frame_number back = record {
  nodes = 45;
  registers = place_bits (back + 1) + 104;
  memories = 2 ^ place_bits (back + 1);
}

-- an operand, its word where the row passes, and the sum of its numbers, beside the number of rows and a cut of it
abbrev pub cost_of_frame_fraction : ℕ → ℕ → Cost
cost_of_frame_fraction width back = record {
  nodes = 95;
  registers = 2 * place_bits (back + 1) + 110 + 2 * width + 3 * (width + digits (back + 1));
  memories = 2 ^ place_bits (back + 1) * width + 2 ^ place_bits (back + 1);
}

-- the fraction, its division, and a cut
abbrev pub cost_of_frame_average : ℕ → ℕ → Cost
cost_of_frame_average width back = record {
  nodes = (cost_of_frame_fraction width back).nodes + (cost_of_quotient (width + digits (back + 1)) (digits (back + 1))).nodes + 2;
  registers = (cost_of_frame_fraction width back).registers
      + (cost_of_quotient (width + digits (back + 1)) (digits (back + 1))).registers;
  memories = (cost_of_frame_fraction width back).memories;
}

-- the values of an operand of the rows of a frame that pass
abbrev pub framed_values : Sets → Operand → Option ℕ → ℕ → List Row → List ℕ
framed_values sets operand by back rows = map (value_in sets operand) (frame_of (Some back) (counts_in by) rows)

-- three cycles behind each row, the sum of the numbers of the rows of its frame that pass, and how many they are
pub record IsFrameFraction (old new : Net) (input : Input) (by : Option ℕ) (operand : Operand) (back : ℕ) (f : Fraction)
    : Type 0 where
  pub keeps : Keeps old new
  pub cost : CostsAtMost old new
      (cost_of_frame_fraction (width_of (kind_of_operand input.source.kinds.now operand)) back)
  pub top : IsBus new f.top
  pub top_width : f.top.width ≡ width_of (kind_of_operand input.source.kinds.now operand) + digits (back + 1)
  pub bottom : IsBus new f.bottom
  pub bottom_width : f.bottom.width ≡ digits (back + 1)
  pub values : (run : Run) → IsRun new run → (t : ℕ)
      → value_in run.held operand (rows_by run input (suc t))
      % 2 ^ width_of (kind_of_operand input.source.kinds.now operand)
      ≡ value_in run.held operand (rows_by run input (suc t))
  pub sums : (run : Run) → IsRun new run → Tells run input.lines 3
      (λ rows. word_of (width_of (kind_of_operand input.source.kinds.now operand) + digits (back + 1))
      (sum_of_numbers (kind_of_operand input.source.kinds.now operand) (framed_values run.held operand by back rows)))
      (rows_by run input) (carried_by run f.top)
  pub numbers : (run : Run) → IsRun new run → Tells run input.lines 3
      (λ rows. count_of (frame_of (Some back) (counts_in by) rows)) (rows_by run input) (carried_by run f.bottom)
