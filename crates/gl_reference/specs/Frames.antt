-- Frames as the code has them: how far back one reaches, and what PARTITION makes of rows.
-- A middle layer, proved equal to gl_query (`Shapes`, `Results`): no promise rests on it.
use Rattle.std.specs.Prelude.{ℕ, Bool, false, List, Option, Some, None, option_map, slice_index, if◌then◌else◌}
use Rattle.gl_values.specs.Lists.{has_further, rows_with}
use Rattle.gl_values.specs.Partitions.{has_key}
use Rattle.gl_values.specs.Results.{Row}
use Rattle.gl_frames.specs.Frames.{framed, framed_by_key}
use Rattle.gl_schema.specs.declared.schema.Column.{Column}
use Rattle.gl_query.specs.declared.tree.Num.{Num}
use Rattle.gl_query.specs.Results.{Reach, reached_row}
use Rattle.gl_query.specs.Shapes.{FrameItemShape, SlotsShape}
use Rattle.gl_query.specs.Values.{column_number}

-- the number behind ROWS, where there is one
abbrev pub back_of : Option Num → Option ℕ
back_of back = option_map (λ (n : Num). n.value) back

-- what a select of frames makes of the rows of a key, if the key is one of the first n
abbrev pub key_row : Reach → List FrameItemShape → ℕ → ℕ → List Row → ℕ → Option Row
key_row reach items n column rows key =
    if has_key n (λ r. slice_index r column) rows key
    then Some (reached_row reach items (rows_with (λ r. slice_index r column) rows key))
    else None

-- the rows of a select of frames, of those that its filter keeps
abbrev pub framed_rows : List Column → Reach → List FrameItemShape → Option SlotsShape → List Row → List Row
framed_rows columns reach items None rows = framed (reached_row reach items) rows
framed_rows columns reach items (Some s) rows =
    framed_by_key s.groups (λ r. slice_index r (column_number columns s.key)) (reached_row reach items) rows

-- whether rows of further keys are left out
abbrev pub left_out : List Column → Option SlotsShape → List Row → Bool
left_out columns None rows = false
left_out columns (Some s) rows = has_further s.groups (λ r. slice_index r (column_number columns s.key)) rows
