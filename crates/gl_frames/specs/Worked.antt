-- Worked frames: what window functions give for each number of a few short lists.
use Rattle.std.specs.Prelude.{ℕ, ◌≡◌, ◌/◌, ◌%◌, Bool, true, [], ◌∷◌, Some, None, nat_eq, sum}
use Rattle.gl_frames.specs.Frames.{framed, framed_by_key, lag_of, last_value_of, total_over}

-- a value stands for itself
abbrev pub itself : ℕ → ℕ
itself x = x

-- no FILTER
abbrev pub all : {A : Type 0} → A → Bool
all x = true

-- the tens of a number
abbrev pub tens : ℕ → ℕ
tens x = x / 10

-- whether a number is odd
abbrev pub is_odd : ℕ → Bool
is_odd x = nat_eq (x % 2) 1

-- frames of numbers; the key of a number is its tens
pub record WorkedFrames : Type 0 where
  pub nothing : framed (lag_of itself 1) [] ≡ []
  -- the row before, and 0 where there is none
  pub lags : framed (lag_of itself 1) (5 ∷ 6 ∷ 7 ∷ []) ≡ 0 ∷ 5 ∷ 6 ∷ []
  pub far : framed (lag_of itself 2) (5 ∷ 6 ∷ 7 ∷ []) ≡ 0 ∷ 0 ∷ 5 ∷ []
  -- the row itself is 0 rows before itself
  pub own : framed (lag_of itself 0) (5 ∷ 6 ∷ []) ≡ 5 ∷ 6 ∷ []
  -- sums over this row and two before it
  pub sums : framed (total_over sum itself (Some 2) all) (1 ∷ 2 ∷ 3 ∷ 4 ∷ 5 ∷ []) ≡ 1 ∷ 3 ∷ 6 ∷ 9 ∷ 12 ∷ []
  -- ROWS 0 PRECEDING is the row itself
  pub alone : framed (total_over sum itself (Some 0) all) (1 ∷ 2 ∷ 3 ∷ []) ≡ 1 ∷ 2 ∷ 3 ∷ []
  -- only odd ones count: a row that does not pass takes a place in the frame
  pub filtered : framed (total_over sum itself (Some 2) is_odd) (1 ∷ 2 ∷ 3 ∷ 4 ∷ 6 ∷ 8 ∷ [])
      ≡ 1 ∷ 1 ∷ 4 ∷ 3 ∷ 3 ∷ 0 ∷ []
  -- the last odd one, however far back, and 0 before the first one
  pub lasts : framed (last_value_of itself None is_odd) (2 ∷ 3 ∷ 4 ∷ 6 ∷ 7 ∷ 8 ∷ []) ≡ 0 ∷ 3 ∷ 3 ∷ 3 ∷ 7 ∷ 7 ∷ []
  -- the last odd one of two rows, and 0 where neither is odd
  pub near : framed (last_value_of itself (Some 1) is_odd) (2 ∷ 3 ∷ 4 ∷ 6 ∷ 7 ∷ 8 ∷ []) ≡ 0 ∷ 3 ∷ 3 ∷ 0 ∷ 7 ∷ 7 ∷ []
  -- the row before with the same tens, for two keys: rows of the third key are left out
  pub by_key : framed_by_key 2 tens (lag_of itself 1) (11 ∷ 21 ∷ 12 ∷ 31 ∷ 22 ∷ 13 ∷ 32 ∷ [])
      ≡ 0 ∷ 0 ∷ 11 ∷ 21 ∷ 12 ∷ []
  pub sums_by_key : framed_by_key 2 tens (total_over sum itself (Some 1) all) (11 ∷ 21 ∷ 12 ∷ 31 ∷ 22 ∷ 13 ∷ [])
      ≡ 11 ∷ 21 ∷ 23 ∷ 43 ∷ 25 ∷ []
