-- What the output of a plan shows over one stream: the root's wire one cycle later, and two lines that never fall.
use Rattle.std.specs.Prelude.{◌≡◌, ℕ, zero, suc, ◌+◌, ◌<◌, ◌≤◌, None, Bool, true, false, ◌||◌}
use Rattle.gl_algebra.specs.declared.figures.Figures.{Figures}
use Rattle.gl_values.specs.Results.{Results}
use Rattle.gl_wire.specs.Wire.{Carried, rows}

-- a line that is 1 from the cycle after the first one on in which the other is 1
pub record IsSticky (line sticky : ℕ → Bool) : Type 0 where
  pub first : sticky 0 ≡ false
  pub next : (t : ℕ) → sticky (suc t) ≡ (sticky t || line t)

-- a line one cycle later
abbrev pub later_line : (ℕ → Bool) → ℕ → Bool
later_line line zero = false
later_line line (suc t) = line t

-- what an output shows over one stream whose last beat comes in this cycle: the end once and in time, no row behind it,
-- all rows a result with the group line at the end, which never falls and then keeps its value, and no queue passed
pub record ShowsRight (f : Figures) (means : Results) (last : ℕ) (o : Carried) (group queue : ℕ → Bool) : Type 0 where
  pub ended : ℕ
  pub soonest : last ≤ ended
  pub in_time : ended ≤ last + f.le
  pub ends : o.ends (suc ended) ≡ true
  pub once : (c : ℕ) → o.ends c ≡ true → c ≡ suc ended
  pub none_later : (c : ℕ) → suc ended < c → o.tuple c ≡ None
  pub no_overflow : (c : ℕ) → queue c ≡ false
  pub meets : means (rows o 0 (suc (suc ended))) (group (suc ended))
  pub lasts : (c : ℕ) → group c ≡ true → group (suc c) ≡ true
  pub stays : (c : ℕ) → suc ended ≤ c → group c ≡ group (suc ended)
