-- A wire whose ends come late, each with its tuple.
use Rattle.std.specs.Prelude.{◌≡◌, ℕ, suc, ◌+◌, ◌-◌, ◌<◌, ◌≤◌, Some, None, if◌then◌else◌}
use Rattle.std.specs.Prelude.{Bool, true, false, not, ◌&&◌, ◌||◌}
use Rattle.gl_values.specs.Results.{Row}
use Rattle.gl_wire.specs.Apart.{Carries}
use Rattle.gl_wire.specs.Wire.{Carried}
use Rattle.gl_wire_registers.specs.Timers.{IsClose}

-- a tuple without an end comes at once; an end, and the tuple that it came with, so many cycles later
pub record IsLate (shift : ℕ) (a b : Carried) : Type 0 where
  pub no_end : (c : ℕ) → c < shift → b.ends c ≡ false
  pub ends : (c : ℕ) → b.ends (c + shift) ≡ a.ends c
  pub with_end : (c : ℕ) → a.ends c ≡ true → b.tuple (c + shift) ≡ a.tuple c
  pub alone : (c : ℕ) → b.ends c ≡ false → b.tuple c ≡ (if a.ends c then None else a.tuple c)

-- nothing comes in so many cycles after an end
abbrev pub IsQuiet : ℕ → Carried → Type 0
IsQuiet shift a = (u d : ℕ) → a.ends u ≡ true → Carries a d → u < d → u + shift < d

-- the lines of a circuit with late ends, in each cycle: the source's valid line and columns, whether a tuple came with
-- the last end, the line of ends so many cycles later, and the row that came last; nothing stands in the reset cycle
pub record AreLateLines (shift : ℕ) (a b : Carried) (valid had fired : ℕ → Bool) (columns row : ℕ → Row) : Type 0 where
  pub tuple : (t : ℕ) → a.tuple t ≡ (if valid t then Some (columns t) else None)
  pub no_tuple : valid 0 ≡ false
  pub no_end : a.ends 0 ≡ false
  pub fired' : IsClose (shift - 1) shift a.ends fired
  pub had' : (t : ℕ) → had (suc t) ≡ ((a.ends t && valid t) || (had t && not (a.ends t)))
  pub row' : (t : ℕ) → row (suc (suc t)) ≡ (if valid (suc t) then columns (suc t) else row (suc t))
  pub out_tuple : (t : ℕ) → b.tuple t
      ≡ (if (valid t && not (a.ends t)) || (fired t && had t)
      then Some (if fired t then row t else columns t) else None)
  pub out_end : (t : ℕ) → b.ends t ≡ fired t

-- where nothing comes in so many cycles after an end, the wire has late ends
abbrev pub LateLinesAreLate : Type 0
LateLinesAreLate =
    (shift : ℕ) (a b : Carried) (valid had fired : ℕ → Bool) (columns row : ℕ → Row) → 1 ≤ shift
    → AreLateLines shift a b valid had fired columns row
    → IsQuiet shift a → IsLate shift a b
