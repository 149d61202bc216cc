-- How far apart the beats of a file are: all beats by one gap, ticks and the end behind ticks by another.
use Rattle.std.specs.Prelude.{ℕ, ◌+◌, ◌≤◌, List, [], ◌∷◌, Option, unwrap_or, IsTrue, ◌||◌, if◌then◌else◌}
use Rattle.gl_schema.specs.Beats.{Beat, Beats, KeepsGap}
use Rattle.gl_gaps.specs.declared.Gaps.{Gaps}

-- a beat with a tick or the end comes from this cycle on alone, and behind each tick from so many cycles later on
abbrev pub KeepsTicks : ℕ → ℕ → List Beat → Type 0
KeepsTicks gap from [] = Unit {0}
KeepsTicks gap from (b ∷ bs) =
    (IsTrue (b.tick || b.end) → from ≤ b.cycle) × KeepsTicks gap (if b.tick then b.cycle + gap else from) bs

-- each beat is so far behind the one before, and each with a tick or the end so far behind the last tick before it
pub record KeepsGaps (gaps : Gaps) (beats : Beats) : Type 0 where
  pub each : KeepsGap gaps.of_beats beats
  pub ticks : KeepsTicks gaps.of_ticks 0 beats.list

-- one gap of all beats, ticks among them
abbrev pub even_gaps : ℕ → Gaps
even_gaps gap = record { of_beats = gap; of_ticks = gap }

-- a gap of beats, and one of ticks where that is another one
abbrev pub gaps_with : ℕ → Option ℕ → Gaps
gaps_with gap ticks = record { of_beats = gap; of_ticks = unwrap_or ticks gap }
