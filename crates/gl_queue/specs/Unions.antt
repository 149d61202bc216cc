-- The union of two streams in a netlist.
use Rattle.std.specs.Prelude.{◌≡◌, ℕ, ◌+◌, ◌*◌, List, length, None, Bool, true}
use Rattle.std.specs.List.{sum}
use Rattle.gl_algebra.specs.Cost.{ring}
use Rattle.gl_algebra.specs.declared.figures.Figures.{Figures}
use Rattle.gl_algebra.specs.FigureTable.{union_figures, wait_of}
use Rattle.gl_algebra.specs.Weights.{pad_of}
use Rattle.gl_values.specs.Lists.{IsInterleaving}
use Rattle.gl_net.specs.Net.{Net, Run, IsRun}
use Rattle.gl_wire.specs.declared.emitted.Emitted.{Emitted}
use Rattle.gl_wire.specs.Blocks.{IsBehind2, any_pace}
use Rattle.gl_wire.specs.Costs.{Cost}
use Rattle.gl_wire.specs.Faults.{lines_of}
use Rattle.gl_wire.specs.Shapes.{IsDelayed}
use Rattle.gl_wire.specs.Spills.{SameLines, always, both_lines, never2}
use Rattle.gl_wire.specs.Wire.{Carried, carried, widths}
use Rattle.gl_queue.specs.Merging.{IsMerging, only_passed}

-- what a union of sides with these figures costs at most, for columns of these widths
abbrev pub cost_of_union : Figures → Figures → List ℕ → Cost
cost_of_union p q columns = record {
  nodes = 8 * (length columns + 2) * (pad_of p q + p.ne + q.ne + 4);
  registers = (sum columns + 2) * (pad_of p q + 2) + 200;
  memories = (ring p.ne + ring q.ne) * sum columns;
}

-- what it is in a run: two queues behind the sides, of which the faster one waits for the other, and the line that
-- either is passed
pub record IsUnionIn (run : Run) (p q : Figures) (a b o : Emitted) : Type 0 where
  pub first : Carried
  pub second : Carried
  pub passed : ℕ → Bool
  pub left_waits : IsDelayed (wait_of p q) (carried run a.wire) first
  pub right_waits : IsDelayed (wait_of q p) (carried run b.wire) second
  pub merging : IsMerging p.ne q.ne passed first second (carried run o.wire)
  pub told : SameLines (lines_of run o.faults)
      (both_lines (both_lines (lines_of run a.faults) (lines_of run b.faults)) (only_passed passed))

-- a union serves the interleavings of both sides; the left row goes first, and the end leaves alone
pub record IsUnionOf (old new : Net) (p q : Figures) (a b o : Emitted) : Type 0 where
  pub behind : IsBehind2 old new always any_pace p q (union_figures p q) (never2 IsInterleaving)
      (widths a.wire.columns) (cost_of_union p q (widths a.wire.columns)) a b o
  pub merges : (run : Run) → IsRun new run → IsUnionIn run p q a b o
  pub alone : (run : Run) → IsRun new run → (c : ℕ) → (carried run o.wire).ends c ≡ true
      → (carried run o.wire).tuple c ≡ None
