-- How far apart what a wire carries is.
use Rattle.std.specs.Prelude.{◌≡◌, ℕ, ◌+◌, ◌<◌, ◌≤◌, Some, Bool, true, ◌||◌, is_some}
use Rattle.gl_values.specs.Results.{Row}
use Rattle.gl_wire.specs.Wire.{Carried}

-- a wire carries something in a cycle: a tuple, an end, or both
pub data Carries (s : Carried) (c : ℕ) : Type 0 where
  a_tuple : (r : Row) → s.tuple c ≡ Some r → Carries s c
  an_end : s.ends c ≡ true → Carries s c

-- whether it does
abbrev pub carries : Carried → ℕ → Bool
carries s c = is_some (s.tuple c) || s.ends c

-- any two cycles in which it does are so far apart
abbrev pub CarriesApart : ℕ → Carried → Type 0
CarriesApart gap s = (c d : ℕ) → Carries s c → Carries s d → c < d → c + gap ≤ d
