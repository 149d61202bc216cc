-- Rows at places as the code has them, and what selects make of them.
-- A middle layer, proved equal to gl_query (`Results`): no promise rests on it.
use Rattle.std.specs.Prelude.{ℕ, List, map, filter, Bool, ◌||◌, Option, None, Some, slice_index}
use Rattle.gl_values.specs.Lists.{has_further}
use Rattle.gl_values.specs.Results.{Row}
use Rattle.gl_arrival.specs.Places.{Placed}
use Rattle.gl_arrival.specs.Changes.{framed_at, framed_by_key_at}
use Rattle.gl_schema.specs.declared.schema.Column.{Column}
use Rattle.gl_query.specs.Results.{Reach, is_kept, picked, reached_row}
use Rattle.gl_query.specs.Shapes.{ExprShape, FrameItemShape, PickShape, SlotsShape}
use Rattle.gl_query.specs.Values.{column_number}
use Rattle.gl_reference.specs.declared.placed.PlacedRow.{PlacedRow}
use Rattle.gl_reference.specs.declared.columns.Clock.{Clock}

-- the place of the row at an index; without a clock it is the index
abbrev pub place_on : Option Clock → ℕ → ℕ
place_on None index = index
place_on (Some clock) index = slice_index clock.places.now index

-- the rows without their places
abbrev pub rows_in : List PlacedRow → List Row
rows_in rows = map (λ (r : PlacedRow). r.row) rows

-- the rows that a filter keeps
abbrev pub kept_in : Reach → Option ExprShape → List PlacedRow → List PlacedRow
kept_in reach condition rows = filter (λ (r : PlacedRow). is_kept reach condition r.row) rows

-- what is picked of a row, at its place
abbrev pub picked_one : Reach → PickShape → PlacedRow → PlacedRow
picked_one reach pick r = record { row = picked reach pick r.row; place = r.place }

-- what frames make of rows at places
abbrev pub framed_in : List Column → Reach → List FrameItemShape → Option SlotsShape → List (Placed Row)
    → List (Placed Row)
framed_in columns reach items None xs = framed_at (reached_row reach items) xs
framed_in columns reach items (Some s) xs =
    framed_by_key_at s.groups (λ r. slice_index r (column_number columns s.key)) (reached_row reach items) xs

-- whether rows of further keys were left out before, or are of these rows
abbrev pub spills : List Column → Option SlotsShape → Bool → List Row → Bool
spills columns None before rows = before
spills columns (Some s) before rows =
    before || has_further s.groups (λ r. slice_index r (column_number columns s.key)) rows
