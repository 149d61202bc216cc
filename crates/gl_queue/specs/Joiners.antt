-- The joiner of two streams in a netlist.
use Rattle.std.specs.Prelude.{ℕ, ◌+◌, ◌*◌, List, ◌++◌, length, Bool, true, false, ◌&&◌}
use Rattle.std.specs.List.{sum}
use Rattle.gl_algebra.specs.declared.figures.Figures.{Figures}
use Rattle.gl_algebra.specs.FigureTable.{beside_figures, is_fixed, wait_of}
use Rattle.gl_algebra.specs.Weights.{pad_of}
use Rattle.gl_values.specs.Results.{AreBeside}
use Rattle.gl_net.specs.Net.{Net, Run, IsRun}
use Rattle.gl_wire.specs.declared.emitted.Emitted.{Emitted}
use Rattle.gl_wire.specs.Blocks.{IsBehind2}
use Rattle.gl_wire.specs.Costs.{Cost}
use Rattle.gl_wire.specs.Pace.{BothWithEnds, Follows, InStep, WithEnds}
use Rattle.gl_wire.specs.Faults.{lines_of}
use Rattle.gl_wire.specs.Shapes.{IsDelayed}
use Rattle.gl_wire.specs.Spills.{Condition, SameLines, both_lines, never2}
use Rattle.gl_wire.specs.Wire.{Carried, carried, widths}
use Rattle.gl_queue.specs.JoinLines.{JoinsSides}

-- tuples of both sides come so many cycles behind those of one wire
abbrev pub OfOneWire : ℕ → ℕ → Condition
OfOneWire x y beats a b = (leaf : Carried) × InStep x leaf a × InStep y leaf b

-- what a joiner asks of its sides, where both come a fixed time after their beats and where they do not
abbrev pub joins_when : Figures → Figures → Bool → Condition
joins_when p q true = OfOneWire p.a q.a
joins_when p q false = BothWithEnds

-- the pace of what comes out
abbrev pub joined_pace : Figures → Figures → Bool → Carried → Carried → Carried → Type 0
joined_pace p q true a b o = Follows (wait_of p q) a o
joined_pace p q false a b o = WithEnds o

-- what a joiner of sides with these figures costs at most, for columns of these widths
abbrev pub cost_of_joiner : Figures → Figures → List ℕ → Cost
cost_of_joiner p q columns = record {
  nodes = 8 * (length columns + 2) * (pad_of p q + 4);
  registers = (sum columns + 2) * (pad_of p q + 2);
  memories = 0;
}

-- what it is in a run: both sides, of which the faster one waits for the other, joined; it has no line of its own
pub record IsJoinerIn (run : Run) (p q : Figures) (a b o : Emitted) : Type 0 where
  pub first : Carried
  pub second : Carried
  pub left_waits : IsDelayed (wait_of p q) (carried run a.wire) first
  pub right_waits : IsDelayed (wait_of q p) (carried run b.wire) second
  pub joins : JoinsSides (is_fixed p && is_fixed q) first second (carried run o.wire)
  pub told : SameLines (lines_of run o.faults) (both_lines (lines_of run a.faults) (lines_of run b.faults))

-- a joiner serves the rows of both sides side by side, with its figures and within its cost
pub record IsJoinerOf (old new : Net) (p q : Figures) (a b o : Emitted) : Type 0 where
  pub behind : IsBehind2 old new (joins_when p q (is_fixed p && is_fixed q))
      (joined_pace p q (is_fixed p && is_fixed q))
      p q (beside_figures p q) (never2 AreBeside)
      (widths a.wire.columns ++ widths b.wire.columns)
      (cost_of_joiner p q (widths a.wire.columns ++ widths b.wire.columns)) a b o
  pub joins : (run : Run) → IsRun new run → IsJoinerIn run p q a b o
