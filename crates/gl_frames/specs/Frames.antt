-- Frames, the window functions of SQL: a value for each row, made of the rows up to it. Lists are in order, the oldest
-- row first. The last row of the rows so far is the one that gets the value.
use Rattle.std.specs.Prelude.{◌≡◌, ℕ, suc, ◌-◌, Bool, List, [], ◌∷◌, ◌++◌, Option, Some, None, length, take, drop, map, filter, reverse, fold, slice_get, if◌then◌else◌}
use Rattle.std.specs.List.{cons_option}
use Rattle.gl_values.specs.Lists.{rows_with}
use Rattle.gl_values.specs.Partitions.{has_key}

-- for each row, behind those seen, what is made of the rows up to it; or nothing
abbrev pub each_of : {A B : Type 0} → (List A → Option B) → List A → List A → List B
each_of f seen [] = []
each_of f seen (x ∷ xs) = cons_option (f (seen ++ x ∷ [])) (each_of f (seen ++ x ∷ []) xs)

-- the last n rows, or all of them where there are fewer
abbrev pub last_ones : {A : Type 0} → ℕ → List A → List A
last_ones n xs = drop (length xs - n) xs

-- all rows but the last n
abbrev pub but_last : {A : Type 0} → ℕ → List A → List A
but_last n xs = take (length xs - n) xs

-- the n-th row before the last one, where there is one
abbrev pub row_before : {A : Type 0} → ℕ → List A → Option A
row_before n xs = slice_get (reverse xs) n

-- the value of a row, and 0 where there is no row
abbrev pub number_or : {A : Type 0} → (A → ℕ) → Option A → ℕ
number_or value None = 0
number_or value (Some x) = value x

-- LAG(value, k): the value of the k-th row before this one, and 0 where there is none
abbrev pub lag_of : {A : Type 0} → (A → ℕ) → ℕ → List A → ℕ
lag_of value k xs = number_or value (row_before k xs)

-- ROWS k PRECEDING: this row and the k rows before it. ROWS UNBOUNDED PRECEDING: all rows up to this one
abbrev pub rows_preceding : {A : Type 0} → Option ℕ → List A → List A
rows_preceding None xs = xs
rows_preceding (Some k) xs = last_ones (suc k) xs

-- FILTER (WHERE passes) over such a frame: those of its rows that pass
abbrev pub frame_of : {A : Type 0} → Option ℕ → (A → Bool) → List A → List A
frame_of back passes xs = filter passes (rows_preceding back xs)

-- COUNT, SUM, MIN, MAX and AVG over a frame: the total of the values of its rows
abbrev pub total_over : {A : Type 0} → (List ℕ → ℕ) → (A → ℕ) → Option ℕ → (A → Bool) → List A → ℕ
total_over total value back passes xs = total (map value (frame_of back passes xs))

-- LAST_VALUE over a frame: the value of its last row, and 0 where it has none
abbrev pub last_value_of : {A : Type 0} → (A → ℕ) → Option ℕ → (A → Bool) → List A → ℕ
last_value_of value back passes xs = number_or value (row_before 0 (frame_of back passes xs))

-- a plain item: the value of the row itself
abbrev pub own_of : {A : Type 0} → (A → ℕ) → List A → ℕ
own_of value xs = lag_of value 0 xs

-- the row of a select of frames: what each item makes of the rows so far
abbrev pub row_of : {A : Type 0} → List (List A → ℕ) → List A → List ℕ
row_of items xs = map (λ item. item xs) items

-- what a row of one of the first n keys has of its key's rows, and nothing for a row of a further key
abbrev pub if_has_key : {A B : Type 0} → ℕ → (A → ℕ) → (List A → B) → List A → Option A → Option B
if_has_key n key_of f xs None = None
if_has_key n key_of f xs (Some x) =
    if has_key n key_of xs (key_of x) then Some (f (rows_with key_of xs (key_of x))) else None

-- PARTITION BY key GROUPS n: what f makes of those rows so far that have the key of the last one
abbrev pub by_key : {A B : Type 0} → ℕ → (A → ℕ) → (List A → B) → List A → Option B
by_key n key_of f xs = if_has_key n key_of f xs (row_before 0 xs)

-- the rows of a select of frames without PARTITION: for each row what f makes of the rows up to it
abbrev pub framed : {A B : Type 0} → (List A → B) → List A → List B
framed f xs = each_of (λ seen. Some (f seen)) [] xs

-- the rows of a select of frames with PARTITION: for each row of the first n keys what f makes of its key's rows up
-- to it
abbrev pub framed_by_key : {A B : Type 0} → ℕ → (A → ℕ) → (List A → B) → List A → List B
framed_by_key n key_of f xs = each_of (by_key n key_of f) [] xs

-- ---- the best of some values, by an operator that answers which of two is kept

-- the best of values, where there is any
abbrev pub best_of : {A : Type 0} → (A → A → A) → List A → Option A
best_of op [] = None
best_of op (x ∷ xs) = Some (fold op x xs)

-- the better of two values, either of which may be absent
abbrev pub better_of : {A : Type 0} → (A → A → A) → Option A → Option A → Option A
better_of op None y = y
better_of op (Some x) None = Some x
better_of op (Some x) (Some y) = Some (op x y)

-- an operator by which the best of two windows is that of both, also where they overlap
pub record IsChoice {A : Type 0} (op : A → A → A) : Type 0 where
  pub together : (x y z : A) → op (op x y) z ≡ op x (op y z)
  pub once : (x : A) → op x x ≡ x
