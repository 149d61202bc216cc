-- Worked windows of keys. An element stands here for itself and its key is its tens: 11 and 12 are of key 1, 21 of key 2.
use Rattle.std.specs.Prelude.{ℕ, ◌≡◌, ◌/◌, List, [], ◌∷◌}
use Rattle.gl_values.specs.Lists.{Group}
use Rattle.gl_values.specs.Partitions.{parts}

-- the tens of a number
abbrev pub tens : ℕ → ℕ
tens x = x / 10

-- the group of a key with these rows
abbrev pub of : ℕ → List ℕ → Group ℕ
of key rows = record { key = key; rows = rows }

-- windows of the first two keys
abbrev pub windows_of_two : ℕ → ℕ → List ℕ → List (Group ℕ)
windows_of_two size advance xs = parts 2 tens size advance xs

-- the windows of keys of some short lists, in the order in which they come
pub record WorkedParts : Type 0 where
  pub nothing : windows_of_two 2 2 [] ≡ []
  -- windows come as they fill up, whatever the order of the keys; the third element of key 1 stands alone at the end
  pub filled : windows_of_two 2 2 (11 ∷ 21 ∷ 12 ∷ 22 ∷ 14 ∷ [])
      ≡ of 1 (11 ∷ 12 ∷ []) ∷ of 2 (21 ∷ 22 ∷ []) ∷ of 1 (14 ∷ []) ∷ []
  -- full ones come before short ones, though the key of these is older
  pub full_first : windows_of_two 2 2 (11 ∷ 20 ∷ 22 ∷ []) ≡ of 2 (20 ∷ 22 ∷ []) ∷ of 1 (11 ∷ []) ∷ []
  -- short ones come key by key
  pub by_key : windows_of_two 3 2 (11 ∷ 20 ∷ 12 ∷ 14 ∷ 22 ∷ [])
      ≡ of 1 (11 ∷ 12 ∷ 14 ∷ []) ∷ of 1 (14 ∷ []) ∷ of 2 (20 ∷ 22 ∷ []) ∷ []
  -- between windows that leave gaps elements are in none
  pub gaps : windows_of_two 1 3 (11 ∷ 12 ∷ 13 ∷ 14 ∷ []) ≡ of 1 (11 ∷ []) ∷ of 1 (14 ∷ []) ∷ []
  -- a third key has no windows
  pub further : windows_of_two 2 2 (11 ∷ 21 ∷ 12 ∷ 22 ∷ 39 ∷ []) ≡ of 1 (11 ∷ 12 ∷ []) ∷ of 2 (21 ∷ 22 ∷ []) ∷ []
