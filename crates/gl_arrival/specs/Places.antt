-- Rows at places. The place of a stream's row is the cycle of its beat, and that of a body's row its position.
use Rattle.std.specs.Prelude.{ℕ, ◌≤◌, List, [], ◌∷◌, Option, length, map, filter_map, option_map}
use Rattle.std.specs.List.{AllByRecursion, range_with_len}

-- a row and its place
pub record Placed (A : Type 0) : Type 0 where
  pub row : A
  pub place : ℕ

-- a row at a place
abbrev pub at_place : {A : Type 0} → A → ℕ → Placed A
at_place x p = record { row = x; place = p }

-- the rows without their places
abbrev pub rows_of : {A : Type 0} → List (Placed A) → List A
rows_of {A = A} xs = map (λ (x : Placed A). x.row) xs

-- rows at these places, one for each, in order; where there are fewer places the other rows are at 0
abbrev pub at_places : {A : Type 0} → List A → List ℕ → List (Placed A)
at_places [] ps = []
at_places (x ∷ xs) [] = at_place x 0 ∷ at_places xs []
at_places (x ∷ xs) (p ∷ ps) = at_place x p ∷ at_places xs ps

-- the rows that a body is given: each at its position
abbrev pub at_positions : {A : Type 0} → List A → List (Placed A)
at_positions xs = at_places xs (range_with_len 0 (length xs))

-- the rows that beats bring to a stream: each at the cycle of its beat
abbrev pub brought : {A B : Type 0} → (B → Option A) → (B → ℕ) → List B → List (Placed A)
brought row_in cycle_of beats =
    filter_map (λ b. option_map (λ row. at_place row (cycle_of b)) (row_in b)) beats

-- each element of a list stands so to each one behind it
abbrev pub EachBefore : {A : Type 0} → (A → A → Type 0) → List A → Type 0
EachBefore R [] = Unit {0}
EachBefore R (x ∷ xs) = AllByRecursion (R x) xs × EachBefore R xs

-- one row is at no later place than another
abbrev pub IsNoLater : {A : Type 0} → Placed A → Placed A → Type 0
IsNoLater x y = x.place ≤ y.place

-- no row stands behind one at a later place
abbrev pub NeverFall : {A : Type 0} → List (Placed A) → Type 0
NeverFall xs = EachBefore IsNoLater xs
