-- Which of the beats is due in a cycle, where they are taken in order.
use Rattle.std.specs.Prelude.{◌≡◌, ℕ, ◌+◌, ◌≤◌, List, [], ◌∷◌, drop}
use Rattle.gl_schema.specs.Beats.{Beat, beat_at}

-- each beat is in cycle n or later, and later than the one before
abbrev pub AreFrom : ℕ → List Beat → Type 0
AreFrom n [] = Unit {0}
AreFrom n (b ∷ bs) = (n ≤ b.cycle) × AreFrom (b.cycle + 1) bs

-- from cycle n on the beats are those from this place on
pub record AreDue (beats : List Beat) (next n : ℕ) : Type 0 where
  pub same : (k : ℕ) → n ≤ k → beat_at beats k ≡ beat_at (drop next beats) k
  pub later : AreFrom n (drop next beats)
