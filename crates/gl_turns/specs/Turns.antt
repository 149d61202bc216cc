-- Two sides that take turns: after each beat all rows of the left side have come before the right side's first one.
use Rattle.std.specs.Prelude.{◌≡◌, ℕ, suc, ◌+◌, ◌≤◌, Some, true}
use Rattle.gl_algebra.specs.declared.figures.Figures.{Figures}
use Rattle.gl_algebra.specs.FigureTable.{IsSound}
use Rattle.gl_values.specs.Lists.{IsInterleaving}
use Rattle.gl_values.specs.Results.{Row}
use Rattle.gl_wire.specs.Beats.{Beats, Spaced}
use Rattle.gl_wire.specs.Serves.{Fits, HasEnd}
use Rattle.gl_wire.specs.Shapes.{IsDelayed}
use Rattle.gl_wire.specs.Spills.{ServesWhen2, always, never2, no_lines}
use Rattle.gl_wire.specs.Wire.{Carried}
use Rattle.gl_queue.specs.Merging.{first_of}
use Rattle.gl_arrival.specs.Arrival.{by_arrival}
use Rattle.gl_turns.specs.Dates.{stream_at_beats}
use Rattle.gl_turns.specs.TurnFigures.{in_turn}

-- both sides on one wire: in each cycle the left row, else the right one; the end is the right side's
abbrev pub together : Carried → Carried → Carried
together a b = record { tuple = λ c. first_of (a.tuple c) (b.tuple c); ends = b.ends }

-- no cycle has rows of both sides: each row of either leaves in the next cycle, and so does the right side's end
pub record LeaveNext (a b o : Carried) : Type 0 where
  pub left : (c : ℕ) (r : Row) → a.tuple c ≡ Some r → o.tuple (suc c) ≡ Some r
  pub right : (c : ℕ) (r : Row) → b.tuple c ≡ Some r → o.tuple (suc c) ≡ Some r
  pub end : (c : ℕ) → o.ends (suc c) ≡ b.ends c

-- over these beats, what leaves fits, and each of its streams has the rows of both streams of its beat in the order of
-- the beats that brought them, of one beat the left row first; it ends no earlier than either
pub record ServedInTurn (f g h : Figures) (beats : Beats) (a b o : Carried) : Type 0 where
  pub fits : Fits h beats o
  pub in_order : (t d e x : ℕ) → beats t ≡ Some true → HasEnd f a t d → HasEnd g b t e → HasEnd h o t x
      → stream_at_beats h.a beats o x ≡ by_arrival (stream_at_beats f.a beats a d) (stream_at_beats g.a beats b e)
  pub later : (t d x : ℕ) → beats t ≡ Some true → HasEnd f a t d → HasEnd h o t x → d ≤ x
  pub later2 : (t e x : ℕ) → beats t ≡ Some true → HasEnd g b t e → HasEnd h o t x → e ≤ x

-- a block of two sides serves their order of arrival: over every sequence of streams
abbrev pub ServesInTurn : Figures → Figures → Figures → Carried → Carried → Carried → Type 0
ServesInTurn f g h a b o =
    (beats : Beats) → Spaced h beats → Fits f beats a → Fits g beats b → ServedInTurn f g h beats a b o

-- sides of which the right one's interval begins behind the left one's serve the order of arrival, one cycle later
abbrev pub TurnsServe : Type 0
TurnsServe =
    (p q : Figures) (a b o : Carried) → IsSound p → IsSound q → p.le + 1 ≡ q.a → IsDelayed 1 (together a b) o
    → ServesInTurn p q (in_turn p q) a b o

-- and none of their rows waits
abbrev pub TurnsLeaveNext : Type 0
TurnsLeaveNext =
    (p q : Figures) (a b o : Carried) (beats : Beats) → IsSound p → IsSound q → p.le + 1 ≡ q.a
    → IsDelayed 1 (together a b) o → Spaced (in_turn p q) beats → Fits p beats a → Fits q beats b → LeaveNext a b o

-- what serves the order of arrival serves one of the interleavings, and leaves nothing out
abbrev pub ArrivalsInterleave : Type 0
ArrivalsInterleave =
    (f g h : Figures) (a b o : Carried) → ServesInTurn f g h a b o
    → ServesWhen2 always f g h (never2 IsInterleaving) no_lines a b o
