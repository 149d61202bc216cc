-- The block of turns in a netlist.
use Rattle.std.specs.Prelude.{ℕ, ◌+◌, ◌*◌, List, length}
use Rattle.std.specs.List.{sum}
use Rattle.gl_algebra.specs.declared.figures.Figures.{Figures}
use Rattle.gl_values.specs.Lists.{IsInterleaving}
use Rattle.gl_net.specs.Net.{Net, Run, IsRun}
use Rattle.gl_wire.specs.declared.emitted.Emitted.{Emitted}
use Rattle.gl_wire.specs.Beats.{Beats, Spaced}
use Rattle.gl_wire.specs.Blocks.{IsBehind2, any_pace}
use Rattle.gl_wire.specs.Costs.{Cost}
use Rattle.gl_wire.specs.Serves.{Fits}
use Rattle.gl_wire.specs.Shapes.{IsDelayed}
use Rattle.gl_wire.specs.Spills.{always, never2}
use Rattle.gl_wire.specs.Wire.{Carried, carried, widths}
use Rattle.gl_turns.specs.TurnFigures.{left_wait, right_wait, turn_figures, waits}
use Rattle.gl_turns.specs.Turns.{LeaveNext, ServesInTurn, together}

-- what turns of sides with these figures cost at most, for columns of these widths; two of the nodes are gates of the
-- lines that tell of faults, which may be absent
abbrev pub cost_of_turns : Figures → Figures → List ℕ → Cost
cost_of_turns p q columns = record {
  nodes = (length columns + 2) * (waits p q + 2) + 1;
  registers = (sum columns + 2) * (waits p q + 1);
  memories = 0;
}

-- what they are in a run: both sides as they wait, and a cycle behind them what leaves. Over beats that keep the gap no
-- row waits any longer
pub record AreTurnsIn (run : Run) (p q : Figures) (a b o : Emitted) : Type 0 where
  pub first : Carried
  pub second : Carried
  pub left_waits : IsDelayed (left_wait p q) (carried run a.wire) first
  pub right_waits : IsDelayed (right_wait p q) (carried run b.wire) second
  pub turns : IsDelayed 1 (together first second) (carried run o.wire)
  pub next : (beats : Beats) → Spaced (turn_figures p q) beats → Fits p beats (carried run a.wire)
      → Fits q beats (carried run b.wire) → LeaveNext first second (carried run o.wire)

-- turns serve the order of arrival of both sides; they have no line of their own
pub record AreTurnsOf (old new : Net) (p q : Figures) (a b o : Emitted) : Type 0 where
  pub behind : IsBehind2 old new always any_pace p q (turn_figures p q) (never2 IsInterleaving)
      (widths a.wire.columns) (cost_of_turns p q (widths a.wire.columns)) a b o
  pub turns : (run : Run) → IsRun new run → AreTurnsIn run p q a b o
  pub in_order : (run : Run) → IsRun new run
      → ServesInTurn p q (turn_figures p q) (carried run a.wire) (carried run b.wire) (carried run o.wire)
