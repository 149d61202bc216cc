-- Windows, groups and interleavings of lists, generic in their elements.
-- After the operators of Mueller, Teubner and Alonso, Streams on Wires, PVLDB 2(1), 2009.
use Rattle.std.specs.Prelude.{ℕ, ◌*◌, Bool, not, List, [], ◌∷◌, Option, Some, None, length, take, drop, map, filter, nat_eq, nat_lt, if◌then◌else◌}
use Rattle.std.specs.List.{list_any, range_with_len}

-- the part of a list from a place on, of at most `size` elements
abbrev pub part : {A : Type 0} → ℕ → ℕ → List A → List A
part size from xs = take size (drop from xs)

-- slice j is the part from place j * advance, where that is below the length
abbrev pub slice_at : {A : Type 0} → ℕ → ℕ → List A → ℕ → Option (List A)
slice_at size advance xs j = if nat_lt (j * advance) (length xs) then Some (part size (j * advance) xs) else None

-- all slices, in order: one for each number whose multiple of the advance is a place of the list
unfoldable pub slices : {A : Type 0} → ℕ → ℕ → List A → List (List A)
slices size advance xs =
    map (λ j. part size (j * advance) xs) (filter (λ j. nat_lt (j * advance) (length xs)) (range_with_len 0 (length xs)))

-- each number once, in order of first appearance
abbrev pub distinct : List ℕ → List ℕ
distinct [] = []
distinct (x ∷ xs) = x ∷ filter (λ y. not (nat_eq x y)) (distinct xs)

-- the keys of a list's rows, in order of first appearance
abbrev pub keys_of : {A : Type 0} → (A → ℕ) → List A → List ℕ
keys_of key_of xs = distinct (map key_of xs)

-- the rows with a key, in order
abbrev pub rows_with : {A : Type 0} → (A → ℕ) → List A → ℕ → List A
rows_with key_of xs key = filter (λ x. nat_eq (key_of x) key) xs

-- a key, and the rows with it
pub record Group (A : Type 0) : Type 0 where
  pub key : ℕ
  pub rows : List A

-- the groups of the first n keys, in order of first appearance
unfoldable pub groups : {A : Type 0} → ℕ → (A → ℕ) → List A → List (Group A)
groups n key_of xs = map (λ key. record { key = key; rows = rows_with key_of xs key }) (take n (keys_of key_of xs))

-- whether some row's key is not among the first n
unfoldable pub has_further : {A : Type 0} → ℕ → (A → ℕ) → List A → Bool
has_further n key_of xs = list_any (λ x. not (list_any (nat_eq (key_of x)) (take n (keys_of key_of xs)))) xs

-- zs has the elements of xs and of ys, each side's in its order
pub data IsInterleaving {A : Type 0} : List A → List A → List A → Type 0 where
  nothing : IsInterleaving [] [] []
  from_first : (x : A) (xs ys zs : List A) → IsInterleaving xs ys zs → IsInterleaving (x ∷ xs) ys (x ∷ zs)
  from_second : (y : A) (xs ys zs : List A) → IsInterleaving xs ys zs → IsInterleaving xs (y ∷ ys) (y ∷ zs)
