-- Laws of windows, groups and interleavings.
use Rattle.std.specs.Prelude.{◌≡◌, ℕ, ◌+◌, ◌*◌, ◌<◌, ◌≤◌, Bool, true, false, not, List, [], ◌∷◌, ◌++◌, IsPermutation, Some, length, take, map, filter, sum_by, slice_get, nat_eq, nat_le, nat_lt, ◌&&◌, None, if◌then◌else◌}
use Rattle.std.specs.List.{list_any}
use Rattle.gl_values.specs.Lists.{slices, slice_at, keys_of, rows_with, groups, Group, IsInterleaving}
use Rattle.gl_values.specs.Times.{tpart, tslices}
use Rattle.gl_values.specs.Partitions.{has_key, parts}

-- an empty list has no slices
abbrev pub NoSlicesOfNothing : Type 0 → Type 0
NoSlicesOfNothing A = (size advance : ℕ) → slices {A = A} size advance [] ≡ []

-- slice j is the part from place j * advance where that is below the length, and there is no other
abbrev pub SlicesAreParts : Type 0 → Type 0
SlicesAreParts A =
    (size advance : ℕ) (xs : List A) (j : ℕ) → 1 ≤ advance
    → slice_get (slices size advance xs) j ≡ slice_at size advance xs j

-- the element at a place stands in one of the slices
pub record IsInSlice {A : Type 0} (size advance : ℕ) (xs : List A) (i : ℕ) : Type 0 where
  pub slice : ℕ
  pub rows : List A
  pub is : slice_get (slices size advance xs) slice ≡ Some rows
  pub place : ℕ
  pub from : slice * advance + place ≡ i
  pub same : slice_get rows place ≡ slice_get xs i

-- where slices leave no gap between them, every element is in one
abbrev pub SlicesMissNothing : Type 0 → Type 0
SlicesMissNothing A =
    (size advance : ℕ) (xs : List A) (i : ℕ) → 1 ≤ advance → advance ≤ size → i < length xs
    → IsInSlice size advance xs i

-- window j of time has the elements whose time is from j * advance on, within the size; it is there where j * advance is
-- at most the ticks, and there is no other
abbrev pub TimeSlicesAreParts : Type 0 → Type 0
TimeSlicesAreParts A =
    (size advance ticks : ℕ) (times : List ℕ) (xs : List A) (j : ℕ) → 1 ≤ advance
    → slice_get (tslices size advance times ticks xs) j
    ≡ (if nat_le (j * advance) ticks then Some (tpart (j * advance) size times xs) else None)

-- an element more joins the windows that its time is in, behind all others, and no other window
abbrev pub TimeSlicesGrow : Type 0 → Type 0
TimeSlicesGrow A =
    (from size t : ℕ) (ts : List ℕ) (x : A) (xs : List A) → length ts ≡ length xs
    → tpart from size (ts ++ t ∷ []) (xs ++ x ∷ [])
    ≡ tpart from size ts xs ++ (if nat_le from t && nat_lt t (from + size) then x ∷ [] else [])

-- the keys of the groups are the first n, and each group has the rows with its key, in their order
pub record HaveFirstKeys {A : Type 0} (n : ℕ) (key_of : A → ℕ) (xs : List A) : Type 0 where
  pub keys : map (λ (g : Group A). g.key) (groups n key_of xs) ≡ take n (keys_of key_of xs)
  pub rows : map (λ (g : Group A). g.rows) (groups n key_of xs) ≡ map (rows_with key_of xs) (take n (keys_of key_of xs))
  pub whole : sum_by (λ (g : Group A). length g.rows) (groups n key_of xs) ≡ length
      (filter (λ x. list_any (nat_eq (key_of x)) (take n (keys_of key_of xs))) xs)

-- the groups of any list are those of its first distinct keys, as many as there may be, each with its rows in order
abbrev pub GroupsHaveFirstKeys : Type 0 → Type 0
GroupsHaveFirstKeys A = (n : ℕ) (key_of : A → ℕ) (xs : List A) → HaveFirstKeys n key_of xs

-- the elements where the mark is true
abbrev pub marked : {A : Type 0} → List Bool → List A → List A
marked [] zs = []
marked (m ∷ ms) [] = []
marked (true ∷ ms) (z ∷ zs) = z ∷ marked ms zs
marked (false ∷ ms) (z ∷ zs) = marked ms zs

-- zs is put together of xs, where the mark is true, and of ys, where it is false
pub record IsPutTogether {A : Type 0} (xs ys zs : List A) : Type 0 where
  pub marks : List Bool
  pub all : length marks ≡ length zs
  pub first : marked marks zs ≡ xs
  pub second : marked (map not marks) zs ≡ ys
  pub elements : IsPermutation (xs ++ ys) zs

-- an interleaving has the elements of both lists, and keeps both orders
abbrev pub InterleavingsKeepOrders : Type 0 → Type 0
InterleavingsKeepOrders A = (xs ys zs : List A) → IsInterleaving xs ys zs → IsPutTogether xs ys zs

-- the windows of a key
abbrev pub windows_of : {A : Type 0} → ℕ → List (Group A) → List (List A)
windows_of {A = A} key windows =
    map (λ (g : Group A). g.rows) (filter (λ (g : Group A). nat_eq g.key key) windows)

-- the windows of each of the first n keys are the slices of its rows, in their order, and no other key has one
abbrev pub PartsAreSlices : Type 0 → Type 0
PartsAreSlices A =
    (n size advance key : ℕ) (key_of : A → ℕ) (xs : List A) → 1 ≤ size → 1 ≤ advance
    → windows_of key (parts n key_of size advance xs)
    ≡ (if has_key n key_of xs key then slices size advance (rows_with key_of xs key) else [])
