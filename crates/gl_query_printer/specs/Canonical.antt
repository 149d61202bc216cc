-- The statement that the canonical text writes: brackets stand exactly where the grammar needs them.
use Rattle.std.specs.Prelude.{ℕ, Bool, true, false, List, [], ◌∷◌, ◌==◌, map, bytes_eq, nat_le, nat_lt, Option, None, Some, option_map, if◌then◌else◌}
use Rattle.gl_schema.specs.SchemaText.{kind_text}
use Rattle.gl_query.specs.declared.tree.Measure.{Measure}
use Rattle.gl_query.specs.declared.tree.Name.{Name}
use Rattle.gl_query.specs.declared.tree.Num.{Num}
use Rattle.gl_query.specs.Shapes.{ExprShape, AggShape, ItemShape, AggItemShape, FrameAggShape, FrameShape, FrameItemShape, SlotsShape, PickShape, QueryShape, StatementShape}
use Rattle.gl_query.specs.Shapes as shape
use Rattle.gl_query_tokens.specs.declared.token.Fold.TheVariants.{Sum, Min, Max, Avg}
use Rattle.gl_query_tokens.specs.declared.token.Spelling.TheVariants.{Small, Capital}
use Rattle.gl_query_tokens.specs.declared.token.Token.{Token}
use Rattle.gl_query_reader.specs.declared.joins.Joining.TheVariants.{Union, Arrival, Concat}
use Rattle.gl_query_reader.specs.declared.written.Bound.{Bound}
use Rattle.gl_query_reader.specs.declared.written.Bound.TheVariants as bound
use Rattle.gl_query_reader.specs.declared.written.FrameRows.{FrameRows}
use Rattle.gl_query_reader.specs.declared.written.FrameRows.TheVariants as rows
use Rattle.gl_query_reader.specs.declared.written.RowWindow.{RowWindow}
use Rattle.gl_query_reader.specs.declared.written.Window.{Window}
use Rattle.gl_query_reader.specs.declared.written.Grouping.{Grouping}
use Rattle.gl_query_reader.specs.declared.written.Part.{Part}
use Rattle.gl_query_reader.specs.Written.{Expr, Column, Number, Minus, Letters, Brackets, Cast, Not, Flip, Binary, Agg, Count, Fold', Wsum, OverAgg, CountOf, FoldOf, LastOf, Filtering, FilterOf, LagOf, Ranged, OverOf, Item, Bare, Named, Total, Framed, Pick, All, Items, Query, Stream, InBrackets, Select, Windows, Groups, AsOf', Join', Statement, level, looseness, left_looseness, spell_statement, Parameter}
use Rattle.gl_query_printer.specs.Brackets.{is_side, is_stream, is_term}

-- what has no place of its own yet has place 0
abbrev pub name_of : List ℕ → Name
name_of text = record { text = text; at = 0 }

-- a number without a place of its own
abbrev pub num_of : ℕ → Num
num_of value = record { value = value; at = 0 }

-- in brackets where it does not fit without them
abbrev pub fitted : Bool → Expr → Expr
fitted true e = e
fitted false e = Brackets 0 e

-- a column by its name, or a parameter behind its colon
abbrev pub column_of : List ℕ → Expr
column_of [] = Column (name_of [])
column_of (b ∷ name) = if b == 58 then Parameter 0 (name_of name) else Column (name_of (b ∷ name))

-- an operand is in brackets exactly where it is looser than the grammar allows in its place
abbrev pub expr_of : ExprShape → Expr
expr_of (shape.Column name) = column_of name
expr_of (shape.Number n) = Number (num_of n)
expr_of (shape.Minus n) = Minus 0 (num_of n)
expr_of (shape.Letters text) = Letters text 0
expr_of (shape.Not e) = Not 0 (fitted (nat_lt (level (expr_of e)) 9) (expr_of e))
expr_of (shape.Flip e) = Flip 0 (fitted (nat_lt (level (expr_of e)) 2) (expr_of e))
expr_of (shape.Cast kind e) = Cast 0 0 (expr_of e) (name_of (kind_text kind)) kind
expr_of (shape.Binary o l r) =
    Binary o 0 (fitted (nat_le (level (expr_of l)) (left_looseness o)) (expr_of l))
    (fitted (nat_lt (level (expr_of r)) (looseness o)) (expr_of r))

-- an aggregate as the canonical text writes it, with every place left at 0
abbrev pub agg_of : AggShape → Agg
agg_of shape.Count = Count 0 0
agg_of (shape.Sum e) = Fold' Sum 0 0 (expr_of e)
agg_of (shape.Min e) = Fold' Min 0 0 (expr_of e)
agg_of (shape.Max e) = Fold' Max 0 0 (expr_of e)
agg_of (shape.Avg e) = Fold' Avg 0 0 (expr_of e)
agg_of (shape.Wsum e weights) = Wsum 0 0 (expr_of e) (map num_of weights)

-- a column under its own name
abbrev pub is_bare : ExprShape → List ℕ → Bool
is_bare (shape.Column column) name = bytes_eq column name
is_bare e name = false

-- a column under its own name stands alone, every other expression has AS
abbrev pub item_by : ExprShape → List ℕ → Item
item_by e name = if is_bare e name then Bare (name_of name) else Named (expr_of e) (name_of name)

-- an expression under its name as the canonical text writes it
abbrev pub item_of : ItemShape → Item
item_of i = item_by i.expr i.name

-- a function over the rows of a frame as the canonical text writes it, whose word is in small letters
abbrev pub over_agg_of : FrameAggShape → OverAgg
over_agg_of shape.CountOver = CountOf 0 0
over_agg_of (shape.SumOver e) = FoldOf Sum 0 0 (expr_of e)
over_agg_of (shape.MinOver e) = FoldOf Min 0 0 (expr_of e)
over_agg_of (shape.MaxOver e) = FoldOf Max 0 0 (expr_of e)
over_agg_of (shape.AvgOver e) = FoldOf Avg 0 0 (expr_of e)
over_agg_of (shape.LastOver e) = LastOf (Small 0) 0 (expr_of e)

-- FILTER and its condition, where there is one
abbrev pub filtering_of : Option ExprShape → Option Filtering
filtering_of None = None
filtering_of (Some e) = Some (FilterOf (Capital 0) 0 (expr_of e))

-- a number of rows, or UNBOUNDED
abbrev pub bound_of : Option ℕ → Bound
bound_of None = bound.Unbounded (Capital 0)
bound_of (Some n) = bound.Number (num_of n)

-- the rows of a frame without BETWEEN
abbrev pub rows_of : Option ℕ → FrameRows
rows_of back = rows.Short (Capital 0) (bound_of back) (Capital 0)

-- a grouping as the canonical text writes it: its key, and how many groups
abbrev pub grouping_of : List ℕ → ℕ → Grouping
grouping_of key groups = record { at = 0; key = name_of key; groups = num_of groups }

-- PARTITION, where there is one
abbrev pub partition_of : Option SlotsShape → Option Part
partition_of None = None
partition_of (Some s) = Some (record { word = Capital 0; grouping = grouping_of s.key s.groups })

-- a frame under its name, by the PARTITION of its select: an expression over the row itself as any other, and else a
-- function with OVER
abbrev pub frame_by : Option Part → FrameShape → List ℕ → Item
frame_by part (shape.Own e) name = item_by e name
frame_by part (shape.Lag e back) name =
    Framed (OverOf (LagOf (Small 0) 0 (expr_of e) (Some (num_of back))) (Capital 0) 0 part None) (name_of name)
frame_by part (shape.Over agg filter back) name =
    Framed (OverOf (Ranged (over_agg_of agg) (filtering_of filter)) (Capital 0) 0 part (Some (rows_of back)))
    (name_of name)

-- a named frame as the canonical text writes it: each function with OVER has the PARTITION of its select
abbrev pub frame_item_of : Option Part → FrameItemShape → Item
frame_item_of part i = frame_by part i.frame i.name

-- a named aggregate as the canonical text writes it
abbrev pub agg_item_of : AggItemShape → Item
agg_item_of i = Total (agg_of i.agg) (name_of i.name)

-- what is picked, as the canonical text writes it: a star or the items
abbrev pub pick_of : PickShape → Pick
pick_of shape.All = All 0
pick_of (shape.Items items) = Items (map item_of items)

-- a query stands bare where it may, and in brackets elsewhere
abbrev pub bracketed_unless : Bool → Query → Query
bracketed_unless true q = q
bracketed_unless false q = InBrackets 0 q

-- a source is in brackets unless it is a stream or an as-of join
abbrev pub source_of : Query → Query
source_of q = bracketed_unless (is_stream q) q

-- a side of an as-of join is in brackets unless it is a stream
abbrev pub side_of : Query → Query
side_of q = bracketed_unless (is_side q) q

-- the right side of a union and of CONCAT is in brackets where it is itself one of these
abbrev pub term_of : Query → Query
term_of q = bracketed_unless (is_term q) q

-- a window as the canonical text writes it: its size, its advance, and what they are measured in
abbrev pub window_of : Measure → ℕ → ℕ → Window
window_of measure size advance =
    record { at = 0; size = num_of size; advance = num_of advance; measure = measure }

-- a window of each key as the canonical text writes it: its size and its advance in tuples
abbrev pub row_window_of : ℕ → ℕ → RowWindow
row_window_of size advance = record { at = 0; size = num_of size; advance = num_of advance }

-- a query as the canonical text writes it, with brackets only around sources and terms that need them
abbrev pub query_of : QueryShape → Query
query_of (shape.Read name) = Stream (name_of name)
query_of (shape.Rows pick filter source) =
    Select (pick_of pick) (source_of (query_of source)) None (option_map expr_of filter) None
query_of (shape.Total aggs source) = Select (Items (map agg_item_of aggs)) (source_of (query_of source)) None None None
query_of (shape.Frames items filter slots source) =
    Select (Items (map (frame_item_of (partition_of slots)) items)) (source_of (query_of source)) None
    (option_map expr_of filter) None
query_of (shape.Each measure var source size advance body) =
    Windows 0 (name_of var) (source_of (query_of source)) (window_of measure size advance) 0 (query_of body)
query_of (shape.PerGroup var source key groups body) =
    Groups 0 (name_of var) (source_of (query_of source)) (grouping_of key groups) None 0 (query_of body)
query_of (shape.Partition var source key groups size advance body) =
    Groups 0 (name_of var) (source_of (query_of source)) (grouping_of key groups)
    (Some (row_window_of size advance)) 0 (query_of body)
query_of (shape.Union l r) = Join' Union 0 (query_of l) (term_of (query_of r))
query_of (shape.ByArrival l r) = Join' (Arrival 0 (Capital 0)) 0 (query_of l) (term_of (query_of r))
query_of (shape.AsOf l r s) =
    AsOf' (Capital 0) (side_of (query_of l)) (side_of (query_of r)) (grouping_of s.key s.groups)
query_of (shape.Concat l r) = Join' Concat 0 (query_of l) (term_of (query_of r))

-- no `;` ends it
abbrev pub statement_of : StatementShape → Statement
statement_of s = record { query = query_of s.query; name = name_of s.name; closed = false }

-- the tokens of the canonical text
abbrev pub canonical_tokens : StatementShape → List Token
canonical_tokens s = spell_statement (statement_of s)
