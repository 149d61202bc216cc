-- Where a run over the cycles of a file ends: in the first cycle from the last beat's on in which something holds.
use Rattle.std.specs.Prelude.{◌≡◌, ◌⊎◌, ℕ, ◌+◌, ◌<◌, ◌≤◌, Bool, IsFalse, IsTrue}
use Rattle.gl_schema.specs.Beats.{Beats, last_cycle}

-- the first cycle in which the end holds, looked for from the cycle of the last beat on
pub record IsFirstEnd (beats : Beats) (ends : ℕ → Bool) (n : ℕ) : Type 0 where
  pub soonest : last_cycle beats ≤ n
  pub holds : IsTrue (ends n)
  pub first : (k : ℕ) → last_cycle beats ≤ k → k < n → IsFalse (ends k)

-- the end comes in time: at most this many cycles after the last beat's
pub record EndsBy (beats : Beats) (ends : ℕ → Bool) (extra n : ℕ) : Type 0 where
  pub is : IsFirstEnd beats ends n
  pub in_time : n ≤ last_cycle beats + extra

-- the end comes in none of the cycles that are waited, of which this is the last
pub record NeverEnds (beats : Beats) (ends : ℕ → Bool) (extra n : ℕ) : Type 0 where
  pub last : n ≡ last_cycle beats + extra
  pub none : (k : ℕ) → last_cycle beats ≤ k → k ≤ last_cycle beats + extra → IsFalse (ends k)

-- the last cycle that is run
abbrev pub IsLastCycle : Beats → (ℕ → Bool) → ℕ → ℕ → Type 0
IsLastCycle beats ends extra n = EndsBy beats ends extra n ⊎ NeverEnds beats ends extra n
