-- The as-of join: each row of the left side beside the last row of the right side that has its key and came no later.
use Rattle.std.specs.Prelude.{ℕ, Bool, List, Option, Some, None, filter, filter_map, nat_le, if◌then◌else◌}
use Rattle.gl_values.specs.Lists.{has_further, rows_with}
use Rattle.gl_values.specs.Partitions.{has_key}
use Rattle.gl_frames.specs.Frames.{row_before}
use Rattle.gl_arrival.specs.Places.{Placed, at_place, rows_of}
use Rattle.gl_arrival.specs.Arrival.{by_arrival}
use Rattle.gl_arrival.specs.Changes.{framed_by_key_at, mapped_at, stepped_at}

-- how two sides are joined: by which key of each, for how many keys, and what is made of a left row and of the right
-- row that goes with it, if there is one
pub record JoinBy (A B C : Type 0) : Type 0 where
  pub groups : ℕ
  pub left_key : A → ℕ
  pub right_key : B → ℕ
  pub join : A → Option B → C

-- a row of the left side or of the right one
pub data OfEither (A B : Type 0) : Type 0 where
  of_left : (row : A) → OfEither A B
  of_right : (row : B) → OfEither A B

-- its key
abbrev pub key_of_either : {A B C : Type 0} → JoinBy A B C → OfEither A B → ℕ
key_of_either by (of_left a) = by.left_key a
key_of_either by (of_right b) = by.right_key b

-- the row of the right side, where it is one
abbrev pub right_of : {A B : Type 0} → OfEither A B → Option B
right_of (of_left a) = None
right_of (of_right b) = Some b

-- the rows of the right side among rows of both
abbrev pub rights_in : {A B : Type 0} → List (OfEither A B) → List B
rights_in zs = filter_map right_of zs

-- the last of them
abbrev pub last_right : {A B : Type 0} → List (OfEither A B) → Option B
last_right zs = row_before 0 (rights_in zs)

-- the rows of both sides in the order in which they came; of one place those of the right side stand first
abbrev pub both_sides : {A B : Type 0} → List (Placed A) → List (Placed B) → List (Placed (OfEither A B))
both_sides xs ys = by_arrival (mapped_at of_right ys) (mapped_at of_left xs)

-- what is made of a row, where this right row came last: of a left row the row of both, of a right row nothing
abbrev pub joined_last : {A B C : Type 0} → JoinBy A B C → Option B → Option (OfEither A B) → Option C
joined_last by last None = None
joined_last by last (Some (of_left a)) = Some (by.join a last)
joined_last by last (Some (of_right b)) = None

-- what is made of the last row of these, which all have its key
abbrev pub joined : {A B C : Type 0} → JoinBy A B C → List (OfEither A B) → Option C
joined by zs = joined_last by (last_right zs) (row_before 0 zs)

-- ASOF: a select of frames by key over both sides in the order of arrival, of which the rows for left rows stay
abbrev pub as_of : {A B C : Type 0} → JoinBy A B C → List (Placed A) → List (Placed B) → List (Placed C)
as_of {C = C} by xs ys =
    stepped_at (λ (o : Option C). o) (framed_by_key_at by.groups (key_of_either by) (joined by) (both_sides xs ys))

-- whether rows of further keys came on either side
abbrev pub more_keys : {A B C : Type 0} → JoinBy A B C → List (Placed A) → List (Placed B) → Bool
more_keys by xs ys = has_further by.groups (key_of_either by) (rows_of (both_sides xs ys))

-- ---- the same by places, row for row

-- the rows that came no later than a place
abbrev pub come_by : {B : Type 0} → ℕ → List (Placed B) → List B
come_by {B = B} place ys = rows_of (filter (λ (y : Placed B). nat_le y.place place) ys)

-- the last of them that has a key
abbrev pub last_come : {B : Type 0} → (B → ℕ) → ℕ → ℕ → List (Placed B) → Option B
last_come key_of key place ys = row_before 0 (rows_with key_of (come_by place ys) key)

-- a left row beside the last right row of its key that came no later, where its key is among the first ones of those
-- that came on either side
abbrev pub row_for : {A B C : Type 0} → JoinBy A B C → List (OfEither A B) → List (Placed B) → Placed A
    → Option (Placed C)
row_for by came ys x =
    if has_key by.groups (key_of_either by) came (by.left_key x.row)
    then Some (at_place (by.join x.row (last_come by.right_key (by.left_key x.row) x.place ys)) x.place)
    else None
