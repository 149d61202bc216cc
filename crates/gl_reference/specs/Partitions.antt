-- Windows of each key of rows of numbers, as the code answers them.
-- A middle layer, proved equal to gl_bits (`Partitions`): no promise rests on it.
use Rattle.std.specs.Prelude.{ℕ, Bool, List, [], ◌∷◌, length, map, flat_map, slice_index, nat_eq, nat_lt, if◌then◌else◌}
use Rattle.std.specs.List.{list_any}
use Rattle.gl_values.specs.Lists.{Group as GroupOf, rows_with, slices}
use Rattle.gl_values.specs.Partitions.{completed, fulls, has_key, keyed, parts, shorts}
use Rattle.gl_values.specs.declared.lists.Group.{Group}

-- a group as the code has it
abbrev pub shown : GroupOf (List ℕ) → Group
shown g = record { key = g.key; rows = g.rows }

-- the windows of each key in a column
abbrev pub table_parts : ℕ → ℕ → ℕ → ℕ → List (List ℕ) → List Group
table_parts n column size advance xs = map shown (parts n (λ r. slice_index r column) size advance xs)

-- the windows of keys that rows complete, in the order in which they are full
abbrev pub table_fulls : ℕ → ℕ → ℕ → ℕ → List (List ℕ) → List Group
table_fulls n column size advance xs = map shown (fulls n (λ r. slice_index r column) size advance [] xs)

-- the windows of keys that the end cuts short
abbrev pub table_shorts : ℕ → ℕ → ℕ → ℕ → List (List ℕ) → List Group
table_shorts n column size advance xs = map shown (shorts n (λ r. slice_index r column) size advance xs)

-- the window that the last of these rows, of this key, completes
abbrev pub table_windows : ℕ → ℕ → ℕ → ℕ → List (List ℕ) → ℕ → List Group
table_windows n column size advance xs key =
    map shown (if has_key n (λ r. slice_index r column) xs key
    then keyed key (completed size advance (rows_with (λ r. slice_index r column) xs key))
    else [])

-- a slice of a key's rows, if the end cuts it short
abbrev pub table_short : ℕ → ℕ → List (List ℕ) → List Group
table_short size key ys = if nat_lt (length ys) size then record { key = key; rows = ys } ∷ [] else []

-- the slices of a group that the end cuts short
abbrev pub table_shorts_of : ℕ → ℕ → Group → List Group
table_shorts_of size advance g = flat_map (table_short size g.key) (slices size advance g.rows)

-- whether a key is that of a group
abbrev pub is_key : List Group → ℕ → Bool
is_key groups key = list_any (λ (g : Group). nat_eq key g.key) groups
