-- What a front of copies asks of time, and what it says of the cycles in which visits begin and end.
use Rattle.std.specs.Prelude.{◌≡◌, ℕ, suc, ◌+◌, ◌<◌, ◌≤◌, true, false}
use Rattle.gl_wire.specs.Wire.{Carried}
use Rattle.gl_wire.specs.Coming.{Coming}

-- what comes is so far apart, and what comes after an end of the source is as far behind it as the second number
pub record Timed (g1 g2 : ℕ) (a : Carried) (what : Coming) : Type 0 where
  pub apart : (c d : ℕ) → what.comes c → what.comes d → c < d → c + g1 ≤ d
  pub after : (u d : ℕ) → a.ends u ≡ true → what.comes d → u < d → u + g2 ≤ d

-- where the visits of the stream that ends in a cycle begin: at the start, or where the flush of the stream before is
-- over
pub data Begins (flush : ℕ) (a : Carried) (lo c : ℕ) : Type 0 where
  at_first : lo ≡ 0 → ((x : ℕ) → x < c → a.ends x ≡ true → ⊥) → Begins flush a lo c
  after_end : (u : ℕ) → a.ends u ≡ true → u < c → lo ≡ u + flush + 2 → ((x : ℕ) → u < x → x < c → a.ends x ≡ true → ⊥)
      → Begins flush a lo c

-- what lets a visit end: something came the cycle before, or it is the visit's turn of a flush
pub record Origin (turns g1 stride : ℕ) (a : Carried) (what : Coming) (v : ℕ) : Type 0 where
  pub of : ℕ
  pub comes : what.comes of
  pub low : suc of ≤ v
  pub high : v ≤ suc of + turns
  pub at_once : a.ends of ≡ false → (v ≡ suc of) × (stride ≤ g1)

-- no end in a stretch of cycles
pub record NoEnd (a : Carried) (x y : ℕ) : Type 0 where
  pub none : (c : ℕ) → x ≤ c → c < y → a.ends c ≡ false

-- the flush of each end before a cycle is over by then
pub record Rested (flush : ℕ) (a : Carried) (x : ℕ) : Type 0 where
  pub over : (u : ℕ) → a.ends u ≡ true → u < x → u + (flush + 1) ≤ x
