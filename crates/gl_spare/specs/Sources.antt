-- One stream before a front over spare copies.
use Rattle.std.specs.Prelude.{◌≡◌, ℕ, ◌+◌, ◌<◌, ◌≤◌, true}
use Rattle.gl_wire.specs.Apart.{Carries, CarriesApart}
use Rattle.gl_wire.specs.Wire.{Carried}

-- one stream whose end comes in this cycle: what it carries is so far apart, and what comes before the end is the
-- stride before it
pub record OneSource (gap stride : ℕ) (a : Carried) (u : ℕ) : Type 0 where
  pub is : a.ends u ≡ true
  pub only : (c : ℕ) → a.ends c ≡ true → c ≡ u
  pub until : (c : ℕ) → Carries a c → c ≤ u
  pub apart : CarriesApart gap a
  pub before : (c : ℕ) → Carries a c → c < u → c + stride ≤ u
