-- Laws of serving that speak of no meaning in general; the others are lemmas, since a clause cannot range over
-- meanings.
use Rattle.std.specs.Prelude.{◌≡◌, ℕ, ◌+◌, ◌-◌, ◌≤◌, List, Option, false}
use Rattle.gl_values.specs.Results.{Row}
use Rattle.gl_algebra.specs.declared.figures.Figures.{Figures}
use Rattle.gl_algebra.specs.FigureTable.{IsSound, NoCloser, aggregate_figures, delayed, input_figures, needs_spacer}
use Rattle.gl_algebra.specs.Shapes.{Pace}
use Rattle.gl_wire.specs.Apart.{CarriesApart}
use Rattle.gl_wire.specs.Beats.{Beats, Spaced, beats_of, last, most}
use Rattle.gl_wire.specs.Pace.{Follows, KeepsPace, WithEnds}
use Rattle.gl_wire.specs.Serves.{Fits, Serves}
use Rattle.gl_wire.specs.Shapes.{AtEnds, IsDelayed, Mapped, Same, Steady, Totalled}
use Rattle.gl_wire.specs.Sides.{Side}
use Rattle.gl_wire.specs.Wire.{Carried}

-- a steady block serves the rows computed or dropped one by one, with its delay
abbrev pub SteadyServes : Type 0
SteadyServes =
    (m : ℕ) (step : Row → Option Row) (a b : Carried) (f : Figures) → Steady m step a b
    → Serves f (delayed m f) (Mapped step) a b

-- a block that gives one row at each end serves the total, with its delay
abbrev pub EndsServe : Type 0
EndsServe =
    (m : ℕ) (total : List Row → Row) (a b : Carried) (f : Figures) → AtEnds m total a b
    → Serves f (aggregate_figures m f) (Totalled total) a b

-- a wire some cycles behind another serves the same rows, that much later
abbrev pub DelayServes : Type 0
DelayServes = (m : ℕ) (a b : Carried) (f : Figures) → IsDelayed m a b → Serves f (delayed m f) Same a b

-- over its own beats a wire fits the figures of a stream
abbrev pub OwnBeatsFit : Type 0
OwnBeatsFit = (s : Carried) → Fits input_figures (beats_of s) s

-- a wire that follows another keeps its pace, that much later
abbrev pub FollowersKeepPace : Type 0
FollowersKeepPace =
    (m : ℕ) (a b : Carried) → Follows m a b → (pace : Pace) (n : ℕ) (leaves : ℕ → Carried)
    → KeepsPace pace n leaves a → KeepsPace pace (n + m) leaves b

-- what gives one row at each end has a tuple with each end
abbrev pub TotalsComeWithEnds : Type 0
TotalsComeWithEnds = (m : ℕ) (total : List Row → Row) (a b : Carried) → AtEnds m total a b → WithEnds b

-- where no spacer is needed, what a wire carries is far enough apart, if the beats are
abbrev pub UnspacedIsApart : Type 0
UnspacedIsApart =
    (n : ℕ) (f g : Figures) (beats : Beats) (s : Carried) → IsSound f → f.lt - f.a + n ≤ g.gt → f.le - f.a + n ≤ g.ge
    → needs_spacer n f ≡ false → Spaced g beats → Fits f beats s → CarriesApart n s

-- what fits sound figures is a side, over beats that are no closer
abbrev pub FitsIsSide : Type 0
FitsIsSide =
    (f h : Figures) (beats : Beats) (s : Carried) → IsSound f → NoCloser f h → Spaced h beats → Fits f beats s
    → Side f.a (last f) (most f) beats s
