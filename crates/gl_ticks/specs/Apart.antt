-- Ticks that are farther apart than tuples, before windows of time.
use Rattle.std.specs.Prelude.{◌≡◌, ◌⊎◌, ℕ, ◌+◌, ◌-◌, ◌*◌, ◌<◌, ◌≤◌, max, Some, Bool, true}
use Rattle.gl_algebra.specs.declared.figures.Figures.{Figures}
use Rattle.gl_algebra.specs.FigureTable.{stride_of}
use Rattle.gl_wire.specs.Beats.{Beats}
use Rattle.gl_wire.specs.Rotates.{turns_of}
use Rattle.gl_windows.specs.declared.times.TimeRotation.{TimeRotation}
use Rattle.gl_windows.specs.TimeRotations.{copies_of}

-- a tick, and the beat with the end, are so far behind each tick before
pub record TicksApart (gap : ℕ) (tick : ℕ → Bool) (beats : Beats) : Type 0 where
  pub apart : (t u : ℕ) → tick t ≡ true → ((tick u ≡ true) ⊎ (beats u ≡ Some true)) → t < u → t + gap ≤ u

-- figures of windows of time over one stream, and how far apart ticks are: the end comes when the last window was told,
-- and beats are as far apart as the body asks
pub record IsFarEnough (r : TimeRotation) (f : Figures) (ticks : ℕ) : Type 0 where
  pub a : f.a ≡ r.body.a + 2
  pub le : f.le ≡ r.body.le + turns_of (copies_of r) r.body + 3
  pub beats' : r.body.gt ≤ f.gt
  -- two windows that end one after another are told one after another
  pub strides : stride_of r.body ≤ max 1 (r.advance - r.size) * ticks
  -- the next window of a copy begins when its body is ready again
  pub again : r.body.ge ≤ (copies_of r * r.advance - r.size) * ticks
