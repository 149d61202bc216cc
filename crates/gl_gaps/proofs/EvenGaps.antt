-- Beats that keep a gap keep it of ticks too.
use Rattle.std.proofs.Common.{ℕ, ◌+◌, ◌≤◌, Bool, true, false, List, [], ◌∷◌, arith, ◌↔◌}
use Rattle.std.specs.Prelude.{if◌then◌else◌}
use Rattle.gl_schema.specs.Beats.{Beat, Beats, AreSpaced, KeepsGap}
use Rattle.gl_gaps.specs.Keeps.{KeepsGaps, KeepsTicks, even_gaps}

ticks_keep : (gap from : ℕ) (b : Beat) (bs : List Beat) → from ≤ b.cycle → AreSpaced gap (b ∷ bs) → KeepsTicks gap from (b ∷ bs)
ticks_keep gap from b [] low h = (λ t. low, tt)
ticks_keep gap from b (c ∷ bs) low h = (λ t. low, ticks_keep gap (if b.tick then b.cycle + gap else from) c bs (next b.tick) h.1)
  where
    next : (t : Bool) → (if t then b.cycle + gap else from) ≤ c.cycle
    next true = h.0
    next false = omega (arith, low, h.0)

all_keep : (gap : ℕ) (bs : List Beat) → AreSpaced gap bs → KeepsTicks gap 0 bs
all_keep gap [] h = tt
all_keep gap (b ∷ bs) h = ticks_keep gap 0 b bs (omega arith) h

pub keeps_even : (gap : ℕ) (beats : Beats) → KeepsGap gap beats → KeepsGaps (even_gaps gap) beats
keeps_even gap beats h = record { each = h; ticks = all_keep gap beats.list h }

pub even_is : (gap : ℕ) (beats : Beats) → KeepsGaps (even_gaps gap) beats ↔ KeepsGap gap beats
even_is gap beats = (λ k. k.each, keeps_even gap beats)
