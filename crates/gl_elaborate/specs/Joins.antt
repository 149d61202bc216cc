-- The plan of an as-of join: both sides with columns for all, in the order of arrival, the frames of each key, and of
-- these the rows for left rows.
use Rattle.std.specs.Prelude.{ℕ, ◌+◌, List, [], ◌∷◌, ◌++◌, map, length, remove, slice_set, Some, None}
use Rattle.std.specs.List.{range_with_len}
use Rattle.gl_values.specs.Kinds.{width_of}
use Rattle.gl_values.specs.declared.kind.Kind.{Kind}
use Rattle.gl_values.specs.declared.kind.Kind.TheVariants.{Unsigned}
use Rattle.gl_schema.specs.declared.schema.Column.{Column as NamedColumn}
use Rattle.gl_query.specs.Columns.{but_key}
use Rattle.gl_query.specs.Shapes.{SlotsShape}
use Rattle.gl_query.specs.Values.{column_number}
use Rattle.gl_algebra.specs.declared.node.Operand.{Operand}
use Rattle.gl_algebra.specs.declared.node.Operand.TheVariants as operand
use Rattle.gl_algebra.specs.declared.node.PlanFrame.{PlanFrame}
use Rattle.gl_algebra.specs.declared.node.PlanFrame.TheVariants as frame
use Rattle.gl_algebra.specs.declared.node.PlanFrameAgg.TheVariants as frame_agg
use Rattle.gl_algebra.specs.declared.node.PlanKey.{PlanKey}
use Rattle.gl_algebra.specs.declared.node.PlanNode.TheVariants as node
use Rattle.gl_algebra.specs.Added.{Placed, added}

-- 0 of a kind
abbrev pub zero_of : Kind → Operand
zero_of kind = operand.Literal (record { bits = 0; width = width_of kind }) kind

-- zeros for columns
abbrev pub zeros_for : List NamedColumn → List Operand
zeros_for columns = map (λ (c : NamedColumn). zero_of c.kind) columns

-- a mark: one bit
abbrev pub mark : ℕ → Operand
mark bit = operand.Literal (record { bits = bit; width = 1 }) (Unsigned 1)

-- so many columns from a number on
abbrev pub columns_from : ℕ → ℕ → List Operand
columns_from first count = map operand.Column (range_with_len first count)

-- how many columns an as-of join gives
abbrev pub joined_columns : List NamedColumn → List NamedColumn → List ℕ → ℕ
joined_columns lefts rights key = length lefts + length (but_key key rights)

-- a row of the right side for both: zeros for the left columns with the key among them, the other columns, and marks: it
-- is of the right side, and not of the left one
abbrev pub right_items : List NamedColumn → List NamedColumn → List ℕ → List Operand
right_items lefts rights key =
    slice_set (zeros_for lefts) (column_number lefts key) (operand.Column (column_number rights key))
    ++ (remove (columns_from 0 (length rights)) (column_number rights key) ++ mark 1 ∷ mark 0 ∷ [])

-- a row of the left side for both
abbrev pub left_items : List NamedColumn → List NamedColumn → List ℕ → List Operand
left_items lefts rights key =
    columns_from 0 (length lefts) ++ (zeros_for (but_key key rights) ++ mark 0 ∷ mark 1 ∷ [])

-- the last value of a column in rows whose mark is 1
abbrev pub last_marked : ℕ → ℕ → PlanFrame
last_marked mark column = frame.Over (frame_agg.LastValue (operand.Column column)) (Some mark) None

-- the left columns of each row, the right columns of the last row of the right side, and the mark of the left side
abbrev pub join_frames : List NamedColumn → List NamedColumn → List ℕ → List PlanFrame
join_frames lefts rights key =
    let all = joined_columns lefts rights key in
    map (λ c. frame.Own (operand.Column c)) (range_with_len 0 (length lefts))
    ++ (map (last_marked all) (range_with_len (length lefts) (length (but_key key rights)))
    ++ frame.Own (operand.Column (all + 1)) ∷ [])

-- the key of the join in rows of both sides
abbrev pub join_key : List NamedColumn → SlotsShape → PlanKey
join_key lefts slots = record { key = column_number lefts slots.key; groups = slots.groups }

-- the rows of the right side for both, and then those of the left side, whose node stands before
abbrev pub right_side : List NamedColumn → List NamedColumn → List ℕ → Placed → Placed
right_side lefts rights key right = added right.nodes (node.Project right.root (right_items lefts rights key))

abbrev pub left_side : List NamedColumn → List NamedColumn → List ℕ → ℕ → Placed → Placed
left_side lefts rights key left right =
    added (right_side lefts rights key right).nodes (node.Project left (left_items lefts rights key))

-- both in the order in which they came, of one place those of the right side first
abbrev pub both_placed : List NamedColumn → List NamedColumn → List ℕ → ℕ → Placed → Placed
both_placed lefts rights key left right =
    let lefts_at = left_side lefts rights key left right in
    added lefts_at.nodes (node.Merge (right_side lefts rights key right).root lefts_at.root)

-- the frames of each key
abbrev pub join_framed : List NamedColumn → List NamedColumn → SlotsShape → ℕ → Placed → Placed
join_framed lefts rights slots left right =
    let both = both_placed lefts rights slots.key left right in
    added both.nodes (node.Frames both.root (Some (join_key lefts slots)) (join_frames lefts rights slots.key))

-- of these the rows for left rows
abbrev pub join_kept : List NamedColumn → List NamedColumn → SlotsShape → ℕ → Placed → Placed
join_kept lefts rights slots left right =
    let framed = join_framed lefts rights slots left right in
    added framed.nodes (node.Select framed.root (joined_columns lefts rights slots.key))

-- an as-of join of a node and of another one that was placed behind it: without the mark
abbrev pub as_of_over : List NamedColumn → List NamedColumn → SlotsShape → ℕ → Placed → Placed
as_of_over lefts rights slots left right =
    let kept = join_kept lefts rights slots left right in
    added kept.nodes (node.Project kept.root (columns_from 0 (joined_columns lefts rights slots.key)))
