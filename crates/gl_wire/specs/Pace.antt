-- Pace: in which cycles tuples come, against those of another wire or against the wire's own ends. It speaks of a run
-- and of no beats.
use Rattle.std.specs.Prelude.{◌≡◌, ℕ, ◌+◌, ◌<◌, false, is_some}
use Rattle.gl_algebra.specs.Shapes.{Pace, unsteady, once, with_stream, with_body}
use Rattle.gl_wire.specs.Wire.{Carried}
use Rattle.gl_wire.specs.Spills.{Condition}

-- a tuple so many cycles behind each of a leaf's, and no other
pub record InStep (a : ℕ) (leaf b : Carried) : Type 0 where
  pub before : (c : ℕ) → c < a → is_some (b.tuple c) ≡ false
  pub each : (c : ℕ) → is_some (b.tuple (c + a)) ≡ is_some (leaf.tuple c)

-- a tuple with each end, and no other
abbrev pub WithEnds : Carried → Type 0
WithEnds b = (c : ℕ) → is_some (b.tuple c) ≡ b.ends c

-- the wire of a node of this pace, whose tuples come so many cycles behind those of its leaves; a body's input is leaf
-- 0
abbrev pub KeepsPace : Pace → ℕ → (ℕ → Carried) → Carried → Type 0
KeepsPace unsteady a leaves b = Unit {0}
KeepsPace once a leaves b = WithEnds b
KeepsPace (with_stream k) a leaves b = InStep a (leaves k) b
KeepsPace with_body a leaves b = InStep a (leaves 0) b

-- a tuple and an end so many cycles behind each of another's, and no other
pub record Follows (m : ℕ) (a b : Carried) : Type 0 where
  pub before : (c : ℕ) → c < m → is_some (b.tuple c) ≡ false
  pub no_end : (c : ℕ) → c < m → b.ends c ≡ false
  pub tuples : (c : ℕ) → is_some (b.tuple (c + m)) ≡ is_some (a.tuple c)
  pub ends : (c : ℕ) → b.ends (c + m) ≡ a.ends c

-- the tuples of both sides of a joiner come in the same cycles
abbrev pub SameCycles : Condition
SameCycles beats a b = (c : ℕ) → is_some (a.tuple c) ≡ is_some (b.tuple c)

-- each side of a joiner has a tuple with each end, and no other
abbrev pub BothWithEnds : Condition
BothWithEnds beats a b = WithEnds a × WithEnds b
