-- One input of a block, by the beat whose interval is open: what queues, spacers and joiners need of it. No soundness,
-- no overlap.
use Rattle.std.specs.Prelude.{◌≡◌, ℕ, ◌+◌, ◌<◌, ◌≤◌, length, Some, None, Bool, true, false}
use Rattle.gl_values.specs.Results.{Row}
use Rattle.gl_wire.specs.Beats.{Beats}
use Rattle.gl_wire.specs.Wire.{Carried, rows}

-- before this cycle the beat's interval has begun, and that of no later one
pub record IsOpen (first : ℕ) (beats : Beats) (c t : ℕ) (e : Bool) : Type 0 where
  pub is : beats t ≡ Some e
  pub low : t + first < c
  pub later : (u : ℕ) (d : Bool) → beats u ≡ Some d → t < u → c ≤ u + first

-- before this cycle no interval has begun
abbrev pub IsIdle : ℕ → Beats → ℕ → Type 0
IsIdle first beats c = (u : ℕ) (d : Bool) → beats u ≡ Some d → c ≤ u + first

-- the one end of a beat, and nothing after it while the beat is open
pub record ItsEnd (first last : ℕ) (beats : Beats) (s : Carried) (t : ℕ) : Type 0 where
  pub at : ℕ
  pub ends : s.ends at ≡ true
  pub low : t + first ≤ at
  pub high : at ≤ t + last
  pub only : (c k : ℕ) → IsOpen first beats c t true → t + first ≤ k → k < c → s.ends k ≡ true → k ≡ at
  pub after : (c k : ℕ) → IsOpen first beats c t true → at < k → k < c → s.tuple k ≡ None

-- a side: each tuple and end belongs to the open beat and comes in time, and a beat brings no more than it may
pub record Side (first : ℕ) (last most : Bool → ℕ) (beats : Beats) (s : Carried) : Type 0 where
  pub tuple : (c t k : ℕ) (e : Bool) (r : Row) → IsOpen first beats c t e → t + first ≤ k → k < c → s.tuple k ≡ Some r
      → k ≤ t + last e
  pub end : (c t k : ℕ) (e : Bool) → IsOpen first beats c t e → t + first ≤ k → k < c → s.ends k ≡ true → e ≡ true
  pub no_tuple : (c k : ℕ) → IsIdle first beats c → k < c → s.tuple k ≡ None
  pub no_end : (c k : ℕ) → IsIdle first beats c → k < c → s.ends k ≡ false
  pub fewer : (c t k : ℕ) (e : Bool) → IsOpen first beats c t e → t + first + k ≤ c
      → length (rows s (t + first) k) ≤ most e
  pub its_end : (t : ℕ) → beats t ≡ Some true → ItsEnd first (last true) beats s t
