-- Windows of each key: a list is parted by key, and each key's elements have windows of their own. A window is ready when
-- an element completes it, or when the list ends.
use Rattle.std.specs.Prelude.{ℕ, ◌-◌, ◌%◌, Bool, ◌&&◌, List, [], ◌∷◌, ◌++◌, length, take, drop, map, filter, flat_map, nat_eq, nat_le, nat_lt, if◌then◌else◌}
use Rattle.std.specs.List.{list_any}
use Rattle.gl_values.specs.Lists.{Group, groups, keys_of, rows_with, slices}

-- whether a key is among the first n
abbrev pub has_key : {A : Type 0} → ℕ → (A → ℕ) → List A → ℕ → Bool
has_key n key_of xs key = list_any (nat_eq key) (take n (keys_of key_of xs))

-- windows, each with a key
abbrev pub keyed : {A : Type 0} → ℕ → List (List A) → List (Group A)
keyed key windows = map (λ rows. record { key = key; rows = rows }) windows

-- the window that the last element of a list completes, if it does: the last `size` elements, where they begin at a
-- multiple of `advance`
abbrev pub completed : {A : Type 0} → ℕ → ℕ → List A → List (List A)
completed size advance xs =
    let start = length xs - size in
    if nat_le size (length xs) && nat_eq (start % advance) 0 then drop start xs ∷ [] else []

-- the window that an element completes, behind those seen so far: of its key, where that is among the first n
abbrev pub completed_by : {A : Type 0} → ℕ → (A → ℕ) → ℕ → ℕ → List A → A → List (Group A)
completed_by n key_of size advance seen x =
    let xs = seen ++ x ∷ [] in
    if has_key n key_of xs (key_of x)
    then keyed (key_of x) (completed size advance (rows_with key_of xs (key_of x)))
    else []

-- the windows of `size` elements, in the order in which the elements behind those seen complete them
abbrev pub fulls : {A : Type 0} → ℕ → (A → ℕ) → ℕ → ℕ → List A → List A → List (Group A)
fulls n key_of size advance seen [] = []
fulls n key_of size advance seen (x ∷ xs) =
    completed_by n key_of size advance seen x ++ fulls n key_of size advance (seen ++ x ∷ []) xs

-- the slices that the end of a list cuts short
abbrev pub short_slices : {A : Type 0} → ℕ → ℕ → List A → List (List A)
short_slices size advance xs = filter (λ ys. nat_lt (length ys) size) (slices size advance xs)

-- the windows of fewer elements, key by key, and each key's from the oldest
abbrev pub shorts : {A : Type 0} → ℕ → (A → ℕ) → ℕ → ℕ → List A → List (Group A)
shorts {A = A} n key_of size advance xs =
    flat_map (λ (g : Group A). keyed g.key (short_slices size advance g.rows)) (groups n key_of xs)

-- the windows of the first n keys: first those that an element completes, then those that the end does
unfoldable pub parts : {A : Type 0} → ℕ → (A → ℕ) → ℕ → ℕ → List A → List (Group A)
parts n key_of size advance xs =
    fulls n key_of size advance [] xs ++ shorts n key_of size advance xs
