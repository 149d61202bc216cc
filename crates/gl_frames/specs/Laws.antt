-- The laws of frames: what each row has, said by its place; and the equations that circuits go by.
use Rattle.std.specs.Prelude.{◌≡◌, ℕ, suc, ◌+◌, ◌-◌, ◌<◌, ◌≤◌, ◌^◌, Bool, true, List, [], ◌∷◌, ◌++◌, Option, Some, None, length, take, map, slice_get, nat_le, nat_lt, if◌then◌else◌}
use Rattle.gl_values.specs.declared.kind.Kind.{Kind}
use Rattle.gl_values.specs.Totals.{count_of, greater, greatest_of, least_of, lesser, sum_total}
use Rattle.gl_bits.specs.Words.{difference_of, sum_of}
use Rattle.gl_frames.specs.Frames.{IsChoice, best_of, better_of, but_last, frame_of, framed, lag_of, last_ones, last_value_of, number_or, row_before, rows_preceding}

-- row i of a select of frames is made of the rows up to row i, and it has as many rows as its source
abbrev pub RowsAreFramed : Type 0 → Type 0 → Type 0
RowsAreFramed A B =
    (f : List A → B) (xs : List A) (i : ℕ)
    → slice_get (framed f xs) i ≡ (if nat_lt i (length xs) then Some (f (take (suc i) xs)) else None)

-- where k rows stand before row i, ROWS k PRECEDING has the rows from i - k to i
abbrev pub FramesArePlain : Type 0 → Type 0
FramesArePlain A =
    (xs : List A) (k i m : ℕ) → i < length xs → k ≤ i
    → slice_get (rows_preceding (Some k) (take (suc i) xs)) m
    ≡ (if nat_le m k then slice_get xs (i - k + m) else None)

-- where fewer than k rows stand before row i, ROWS k PRECEDING has all rows up to row i
abbrev pub ShortFramesAreWhole : Type 0 → Type 0
ShortFramesAreWhole A =
    (xs : List A) (k i : ℕ) → i < suc k → rows_preceding (Some k) (take (suc i) xs) ≡ take (suc i) xs

-- the k-th row before row i is row i - k, where there is one
abbrev pub LagsArePlain : Type 0 → Type 0
LagsArePlain A =
    (xs : List A) (k i : ℕ) → i < length xs
    → row_before k (take (suc i) xs) ≡ (if nat_le k i then slice_get xs (i - k) else None)

-- without a FILTER the last value of any frame is that of the row itself
abbrev pub LastValuesAreOwn : Type 0 → Type 0
LastValuesAreOwn A =
    (value : A → ℕ) (back : Option ℕ) (xs : List A) (x : A)
    → last_value_of value back (λ y. true) (xs ++ x ∷ []) ≡ value x

-- ---- for circuits

-- a sum over the last n words goes on by the word that comes and the one that leaves
abbrev pub SumsSlide : Type 0
SumsSlide =
    (w n x : ℕ) (xs : List ℕ) → lag_of (λ y. y) n (xs ++ x ∷ []) < 2 ^ w
    → sum_total w (last_ones n (xs ++ x ∷ []))
    ≡ difference_of w (sum_of w (sum_total w (last_ones n xs)) x) (lag_of (λ y. y) n (xs ++ x ∷ []))

-- the word of a row, and 0 where a FILTER leaves the row out
abbrev pub masked : {A : Type 0} → (A → ℕ) → (A → Bool) → A → ℕ
masked value passes x = if passes x then value x else 0

-- the sum of the rows that pass is the sum of all such words of the frame
abbrev pub FiltersAreMasks : Type 0 → Type 0
FiltersAreMasks A =
    (w : ℕ) (back : Option ℕ) (value : A → ℕ) (passes : A → Bool) (xs : List A)
    → sum_total w (map value (frame_of back passes xs))
    ≡ sum_total w (rows_preceding back (map (masked value passes) xs))

-- a count is a sum of ones
abbrev pub CountsAreSums : Type 0 → Type 0
CountsAreSums A = (xs : List A) → count_of xs ≡ sum_total 32 (map (λ x. 1) xs)

-- without a FILTER a frame has k + 1 rows, or all where there are fewer
abbrev pub FramesAreCounted : Type 0 → Type 0
FramesAreCounted A =
    (k : ℕ) (xs : List A)
    → length (rows_preceding (Some k) xs) ≡ (if nat_le (suc k) (length xs) then suc k else length xs)

-- over all rows the last value that passes is this row's, or stays what it was
abbrev pub LastValuesStay : Type 0 → Type 0
LastValuesStay A =
    (value : A → ℕ) (passes : A → Bool) (xs : List A) (x : A)
    → last_value_of value None passes (xs ++ x ∷ [])
    ≡ (if passes x then value x else last_value_of value None passes xs)

-- the best of p + q rows is the better one of that of the last p and that of the q before them
abbrev pub BestsMeet : Type 0 → Type 0
BestsMeet A =
    (op : A → A → A) → IsChoice op → (p q : ℕ) (xs : List A)
    → best_of op (last_ones (p + q) xs)
    ≡ better_of op (best_of op (last_ones q (but_last p xs))) (best_of op (last_ones p xs))

-- the best of n rows is the better one of two windows of p rows that cover them, which may overlap
abbrev pub BestsOverlap : Type 0 → Type 0
BestsOverlap A =
    (op : A → A → A) → IsChoice op → (n p : ℕ) (xs : List A) → p ≤ n → n ≤ p + p
    → best_of op (last_ones n xs)
    ≡ better_of op (best_of op (last_ones p (but_last (n - p) xs))) (best_of op (last_ones p xs))

-- in a column of what was made of the rows up to each, the j-th before the last was made of all rows but the last j
abbrev pub RingsGiveEarlier : Type 0 → Type 0 → Type 0
RingsGiveEarlier A B =
    (f : List A → B) (j : ℕ) (xs : List A)
    → row_before j (framed f xs) ≡ (if nat_lt j (length xs) then Some (f (but_last j xs)) else None)

-- the least and the greatest word of a kind are bests, by operators that are choices
pub record ExtremesAreBests : Type 0 where
  pub lesser_chooses : (kind : Kind) → IsChoice (lesser kind)
  pub greater_chooses : (kind : Kind) → IsChoice (greater kind)
  pub least : (kind : Kind) (xs : List ℕ) → least_of kind xs ≡ number_or (λ x. x) (best_of (lesser kind) xs)
  pub greatest : (kind : Kind) (xs : List ℕ) → greatest_of kind xs ≡ number_or (λ x. x) (best_of (greater kind) xs)
