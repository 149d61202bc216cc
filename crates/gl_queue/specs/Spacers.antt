-- The spacer in a netlist.
use Rattle.std.specs.Prelude.{ℕ, ◌+◌, ◌*◌, List, length, Bool}
use Rattle.std.specs.List.{sum}
use Rattle.gl_algebra.specs.Cost.{ring}
use Rattle.gl_algebra.specs.declared.figures.Figures.{Figures}
use Rattle.gl_algebra.specs.FigureTable.{spacer_figures}
use Rattle.gl_net.specs.Net.{Net, Run, IsRun}
use Rattle.gl_wire.specs.declared.emitted.Emitted.{Emitted}
use Rattle.gl_wire.specs.Blocks.{IsBehindLines}
use Rattle.gl_wire.specs.Costs.{Cost}
use Rattle.gl_wire.specs.Faults.{lines_of}
use Rattle.gl_wire.specs.Shapes.{Same}
use Rattle.gl_wire.specs.Spills.{SameLines, both_lines, never}
use Rattle.gl_wire.specs.Wire.{carried, widths}
use Rattle.gl_queue.specs.Merging.{only_passed}
use Rattle.gl_queue.specs.Spacing.{IsSpaced, IsSpacer}

-- what a spacer behind a source with these figures costs at most, for columns of these widths
abbrev pub cost_of_spacer : Figures → List ℕ → Cost
cost_of_spacer f columns = record {
  nodes = 8 * (length columns + 2) * (f.ne + 6);
  registers = 2 * (sum columns + 2) + 200;
  memories = ring (f.ne + 1) * (sum columns + 2);
}

-- what it is in a run: one queue of all that comes, and the line that it is passed
pub record IsSpacerIn (run : Run) (g : ℕ) (f : Figures) (a b : Emitted) : Type 0 where
  pub passed : ℕ → Bool
  pub spacing : IsSpacer g (f.ne + 1) passed (carried run a.wire) (carried run b.wire)
  pub told : SameLines (lines_of run b.faults) (both_lines (lines_of run a.faults) (only_passed passed))

-- a spacer serves the rows that come, and over beats that are spaced they leave apart
pub record IsSpacerOf (old new : Net) (g : ℕ) (f : Figures) (a b : Emitted) : Type 0 where
  pub behind : IsBehindLines old new f (spacer_figures g f) (λ sets. never Same)
      (widths a.wire.columns) (cost_of_spacer f (widths a.wire.columns)) a b
  pub spaces : (run : Run) → IsRun new run → IsSpacerIn run g f a b
  pub apart : (run : Run) → IsRun new run → IsSpaced g f (carried run a.wire) (carried run b.wire)
