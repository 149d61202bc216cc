-- Frames with PARTITION, said by places: for each place of a list, in order, what is made of the rows of its row's key
-- up to it, where that key is one of the first of the whole list.
use Rattle.std.specs.Prelude.{◌≡◌, ℕ, suc, List, [], Option, Some, None, length, take, slice_get, if◌then◌else◌}
use Rattle.std.specs.List.{filter_map, range_with_len}
use Rattle.gl_values.specs.Lists.{rows_with}
use Rattle.gl_values.specs.Partitions.{has_key}
use Rattle.gl_frames.specs.Frames.{each_of, framed_by_key}

-- what the row of place i has, and nothing where its key is not among the first n of the list
abbrev pub kept_row : {A B : Type 0} → ℕ → (A → ℕ) → (List A → B) → List A → ℕ → Option A → Option B
kept_row n key_of f xs i None = None
kept_row n key_of f xs i (Some x) =
    if has_key n key_of xs (key_of x) then Some (f (rows_with key_of (take (suc i) xs) (key_of x))) else None

-- what is made of the rows up to each row stands in the order of the rows
abbrev pub EachIsPlain : Type 0 → Type 0 → Type 0
EachIsPlain A B =
    (f : List A → Option B) (xs : List A)
    → each_of f [] xs ≡ filter_map (λ i. f (take (suc i) xs)) (range_with_len 0 (length xs))

-- whether a row's key is among the first n of the whole list is known when the row comes
abbrev pub KeysAreKnown : Type 0 → Type 0
KeysAreKnown A =
    (n : ℕ) (key_of : A → ℕ) (xs : List A) (i : ℕ) (x : A) → slice_get xs i ≡ Some x
    → has_key n key_of (take (suc i) xs) (key_of x) ≡ has_key n key_of xs (key_of x)

-- frames with PARTITION have each row of the first n keys of the whole list, in the order of the list
abbrev pub PartitionsArePlain : Type 0 → Type 0 → Type 0
PartitionsArePlain A B =
    (n : ℕ) (key_of : A → ℕ) (f : List A → B) (xs : List A)
    → framed_by_key n key_of f xs
    ≡ filter_map (λ i. kept_row n key_of f xs i (slice_get xs i)) (range_with_len 0 (length xs))
