-- Beats: the cycles in which tuples or the end come in, and how far apart they are.
use Rattle.std.specs.Prelude.{◌≡◌, ℕ, ◌+◌, ◌<◌, ◌≤◌, Option, Some, None, Bool, true, false, if◌then◌else◌, is_some}
use Rattle.gl_algebra.specs.declared.figures.Figures.{Figures}
use Rattle.gl_wire.specs.Wire.{Carried}

-- in which cycles there is a beat, and whether it has the end
abbrev pub Beats : Type 0
Beats = ℕ → Option Bool

-- the beats of a wire: the cycles in which it carries something
abbrev pub beats_of : Carried → Beats
beats_of s c = if s.ends c then Some true else (if is_some (s.tuple c) then Some false else None)

-- the last cycle after a beat, with or without the end, in which something that it caused may come
abbrev pub last : Figures → Bool → ℕ
last f true = f.le
last f false = f.lt

-- the most tuples that a beat causes
abbrev pub most : Figures → Bool → ℕ
most f true = f.ne
most f false = f.nt

-- the cycles from a beat to the next, at least
abbrev pub gap : Figures → Bool → ℕ
gap f true = f.ge
gap f false = f.gt

-- no beat in the reset cycle, and all others so far apart
pub record Spaced (f : Figures) (beats : Beats) : Type 0 where
  pub first : beats 0 ≡ None
  pub apart : (t u : ℕ) (e d : Bool) → beats t ≡ Some e → beats u ≡ Some d → t < u → t + gap f e ≤ u

-- there is no beat, or the last beat has the end
pub record Ends (beats : Beats) : Type 0 where
  pub ends : (t : ℕ) (e : Bool) → beats t ≡ Some e → (u : ℕ) × (t ≤ u) × (beats u ≡ Some true)
