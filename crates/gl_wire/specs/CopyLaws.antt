-- Laws of copies that speak of no meaning; the others are lemmas, since a clause cannot range over meanings.
use Rattle.std.specs.Prelude.{ℕ, ◌+◌, ◌-◌, ◌≤◌}
use Rattle.gl_algebra.specs.declared.figures.Figures.{Figures}
use Rattle.gl_algebra.specs.FigureTable.{IsSound}
use Rattle.gl_wire.specs.Apart.{CarriesApart}
use Rattle.gl_wire.specs.Beats.{Beats, Spaced}
use Rattle.gl_wire.specs.Serves.{Fits}
use Rattle.gl_wire.specs.Wire.{Carried}
use Rattle.gl_wire.specs.Coming.{by_tuples}
use Rattle.gl_wire.specs.Timed.{Timed}

-- a wire that fits, and carries so far apart, is in time for a front, where beats leave room for a whole after an end
abbrev pub FitsIsTimed : Type 0
FitsIsTimed =
    (f h : Figures) (g1 g2 : ℕ) (beats : Beats) (a : Carried) → IsSound f
    → f.lt - f.a + 1 ≤ h.gt → f.le - f.a + 1 ≤ h.ge → f.le - f.a + g2 ≤ h.ge
    → Spaced h beats → Fits f beats a → CarriesApart g1 a → Timed g1 g2 a (by_tuples a)
