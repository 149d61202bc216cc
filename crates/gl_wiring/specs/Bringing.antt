-- The beats of a file as those of a run, which come a cycle later, and wires that bring the streams of beats.
use Rattle.std.specs.Prelude.{◌≡◌, ℕ, zero, suc, Bool, true, false, List, Option, None, option_and_then, option_map}
use Rattle.gl_schema.specs.Beats.{Beat, row_in, beat_at, ends_at, ticks_at}
use Rattle.gl_wire.specs.Beats.{Beats}
use Rattle.gl_wire.specs.Wire.{Carried}

-- the row of a stream that comes in a file cycle
abbrev pub row_at : ℕ → List Beat → ℕ → Option (List ℕ)
row_at k beats n = option_and_then (row_in k) (beat_at beats n)

-- file cycle n is cycle n + 1 of a run, whose cycle 0 is reset
abbrev pub beats_in : List Beat → Beats
beats_in beats zero = None
beats_in beats (suc n) = option_map (λ b. b.end) (beat_at beats n)

-- a wire that carries the rows of stream k and the end, each in the cycle of its beat
pub record Brings (k : ℕ) (beats : List Beat) (s : Carried) : Type 0 where
  pub first : s.tuple 0 ≡ None
  pub no_end : s.ends 0 ≡ false
  pub tuples : (n : ℕ) → s.tuple (suc n) ≡ row_at k beats n
  pub ends : (n : ℕ) → s.ends (suc n) ≡ ends_at beats n

-- a line that is 1 with the ticks, where they are asked for, and else never
pub record BringsTicks (reads : Bool) (beats : List Beat) (line : ℕ → Bool) : Type 0 where
  pub first : line 0 ≡ false
  pub ticks : reads ≡ true → (n : ℕ) → line (suc n) ≡ ticks_at beats n
  pub none : reads ≡ false → (c : ℕ) → line c ≡ false
