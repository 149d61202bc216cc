-- Rows of both sides of an as-of join as the code has them, and what it makes of them.
-- A middle layer, proved equal to gl_asof (`AsOf`): no promise rests on it.
use Rattle.std.specs.Prelude.{ℕ, List, [], ◌∷◌, ◌++◌, Option, None, Some, drop, map, nat_eq, remove, slice_index, if◌then◌else◌}
use Rattle.gl_values.specs.Lists.{rows_with}
use Rattle.gl_values.specs.Partitions.{has_key}
use Rattle.gl_values.specs.Results.{Row}
use Rattle.gl_frames.specs.Frames.{row_before}
use Rattle.gl_schema.specs.declared.schema.Column.{Column}
use Rattle.gl_reference.specs.declared.placed.PlacedRow.{PlacedRow}

-- a row behind its key and the number of its side, which is 0 of the right side and 1 of the left one
abbrev pub marked_row : ℕ → ℕ → Row → Row
marked_row side column row = slice_index row column ∷ side ∷ row

-- the same at its place
abbrev pub marked : ℕ → ℕ → PlacedRow → PlacedRow
marked side column r = record { row = marked_row side column r.row; place = r.place }

-- 0 for each column
abbrev pub zeros_of : List Column → Row
zeros_of columns = map (λ (c : Column). 0) columns

-- the last row of the right side among these; where there is none it is the row given
abbrev pub last_of_right : Row → List Row → Row
last_of_right before [] = before
last_of_right before (r ∷ rows) = last_of_right (if nat_eq (slice_index r 1) 0 then drop 2 r else before) rows

-- the rows of both sides that have a key
abbrev pub of_key : List Row → ℕ → List Row
of_key rows key = rows_with (λ r. slice_index r 0) rows key

-- the row of the join for a row of the left side whose key is among the first n: beside it the last row of the right
-- side of its key without the number at a place, or these zeros without it
abbrev pub row_joined : Row → ℕ → ℕ → List Row → Row → Option Row
row_joined zeros column n seen row =
    if nat_eq (slice_index row 1) 0 then None
    else if has_key n (λ r. slice_index r 0) seen (slice_index row 0)
    then Some (drop 2 row ++ remove (last_of_right zeros (of_key seen (slice_index row 0))) column)
    else None

-- the same for the last of some rows
abbrev pub last_joined : Row → ℕ → ℕ → List Row → Option Row → Option Row
last_joined zeros column n seen None = None
last_joined zeros column n seen (Some row) = row_joined zeros column n seen row

-- what is made of the rows up to a row
abbrev pub join_row : Row → ℕ → ℕ → List Row → Option Row
join_row zeros column n seen = last_joined zeros column n seen (row_before 0 seen)
