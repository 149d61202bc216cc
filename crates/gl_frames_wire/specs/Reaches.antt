-- How far back rings reach.
use Rattle.std.specs.Prelude.{ℕ, ◌+◌, ◌<◌, ◌≤◌, ◌^◌}
use Rattle.gl_algebra.specs.Cost.{least_exponent}
use Rattle.gl_frames_wire.specs.declared.reach.Reach.{Reach}

-- the bits of a place in the smallest ring of more words than it reaches back, so that no word is read in the cycle that
-- writes it
abbrev pub place_bits : ℕ → ℕ
place_bits back = least_exponent (back + 1) 1 (back + 1)

-- the bits of a place: 17 are enough for the largest frame
pub record IsPlaceWidth (bits : ℕ) : Type 0 where
  pub some' : 1 ≤ bits
  pub most : bits ≤ 17

-- a ring reaches back by at least one row, and has more words than that
pub record IsReach (reach : Reach) : Type 0 where
  pub width : IsPlaceWidth reach.bits
  pub some' : 1 ≤ reach.back
  pub inside : reach.back < 2 ^ reach.bits
