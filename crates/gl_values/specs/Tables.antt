-- Groups of rows of numbers, as the code answers them.
use Rattle.std.specs.Prelude.{ℕ, List, [], ◌∷◌, ◌++◌, not, ◌&&◌, length, map, slice_index, nat_eq, nat_lt, if◌then◌else◌}
use Rattle.std.specs.List.{list_any}
use Rattle.gl_values.specs.Lists.{groups, rows_with}
use Rattle.gl_values.specs.Lists.{Group as GroupOf}
use Rattle.gl_values.specs.declared.lists.Group.{Group}

-- the groups of the first keys in a column
abbrev pub keyed_groups : ℕ → ℕ → List (List ℕ) → List Group
keyed_groups n column xs =
    map (λ (g : GroupOf (List ℕ)). record { key = g.key; rows = g.rows }) (groups n (λ r. slice_index r column) xs)

-- the rows of one key in a column
abbrev pub table_group : ℕ → List (List ℕ) → ℕ → Group
table_group column xs key = record { key = key; rows = rows_with (λ r. slice_index r column) xs key }

-- a key behind others, unless it is among them or they are as many as wanted
unfoldable pub with_key : ℕ → List ℕ → ℕ → List ℕ
with_key most keys key =
    if nat_lt (length keys) most && not (list_any (nat_eq key) keys) then keys ++ key ∷ [] else keys
