-- What a statement that is written means: a tree of queries, with places.
use Rattle.std.specs.Prelude.{ℕ, Bool, true, false, List, [], ◌∷◌, codes, Option, Some, None, option_map, option_and_then, if◌then◌else◌}
use Rattle.std.specs.List.{list_any}
use Rattle.gl_query.specs.declared.tree.Name.{Name}
use Rattle.gl_query.specs.declared.tree.Num.{Num}
use Rattle.gl_query.specs.declared.tree.Slots.{Slots}
use Rattle.gl_query.specs.Trees.{ExprTree, AggTree, ItemTree, AggItemTree, FrameAggTree, FrameTree, FrameItemTree, QueryTree, StatementTree, Column, Number, Minus, Letters, Not, Flip, Cast, Binary, Count, Sum, Min, Max, Avg, Wsum, CountOver, SumOver, MinOver, MaxOver, AvgOver, LastOver, Own, Lag, Over, All, Items, Read, Rows, Total, Frames, Each, PerGroup, Partition, Union, ByArrival, AsOf, Concat}
use Rattle.gl_query_tokens.specs.declared.token.Fold.{Fold}
use Rattle.gl_query_tokens.specs.declared.token.Fold.TheVariants as fold
use Rattle.gl_query_reader.specs.declared.joins.Joining.{Joining}
use Rattle.gl_query_reader.specs.declared.joins.Joining.TheVariants as joining
use Rattle.gl_query_tokens.specs.declared.token.Spelling.{Spelling}
use Rattle.gl_query_tokens.specs.declared.token.Spelling.TheVariants.{Small, Capital}
use Rattle.gl_query_reader.specs.declared.written.Bound.{Bound}
use Rattle.gl_query_reader.specs.declared.written.Bound.TheVariants as bound
use Rattle.gl_query_reader.specs.declared.written.Part.{Part}
use Rattle.gl_query_reader.specs.declared.written.FrameRows.{FrameRows}
use Rattle.gl_query_reader.specs.declared.written.FrameRows.TheVariants as rows
use Rattle.gl_query_reader.specs.declared.written.RowWindow.{RowWindow}
use Rattle.gl_query_reader.specs.declared.written.Window.{Window}
use Rattle.gl_query_reader.specs.declared.written.Grouping.{Grouping}
use Rattle.gl_query_reader.specs.Written as written

-- brackets only group; the place of a number behind a minus sign is that of the sign, and a parameter is named with its
-- colon and stands where that does
abbrev pub expr_meaning : written.Expr → ExprTree
expr_meaning (written.Column name) = Column name
expr_meaning (written.Number n) = Number n
expr_meaning (written.Minus at n) = Minus (record { value = n.value; at = at })
expr_meaning (written.Parameter at name) = Column (record { text = 58 ∷ name.text; at = at })
expr_meaning (written.Letters text at) = Letters text at
expr_meaning (written.Brackets at e) = expr_meaning e
expr_meaning (written.Cast at open' e word kind) = Cast (expr_meaning e) kind at
expr_meaning (written.Flip at e) = Flip (expr_meaning e) at
expr_meaning (written.Not at e) = Not (expr_meaning e) at
expr_meaning (written.Binary o at l r) = Binary o (expr_meaning l) (expr_meaning r) at

-- the aggregate that a keyword of a fold makes of its argument
abbrev pub fold_meaning : Fold → ExprTree → AggTree
fold_meaning fold.Sum e = Sum e
fold_meaning fold.Min e = Min e
fold_meaning fold.Max e = Max e
fold_meaning fold.Avg e = Avg e

-- the aggregate that a written one means
abbrev pub agg_meaning : written.Agg → AggTree
agg_meaning (written.Count at open') = Count at
agg_meaning (written.Fold' f at open' e) = fold_meaning f (expr_meaning e)
agg_meaning (written.Wsum at open' e weights) = Wsum (expr_meaning e) weights

-- the function over the rows of a frame that a keyword of a fold makes of its argument
abbrev pub fold_over : Fold → ExprTree → FrameAggTree
fold_over fold.Sum e = SumOver e
fold_over fold.Min e = MinOver e
fold_over fold.Max e = MaxOver e
fold_over fold.Avg e = AvgOver e

-- the function over the rows of a frame that a written one means
abbrev pub over_agg_meaning : written.OverAgg → FrameAggTree
over_agg_meaning (written.CountOf at open') = CountOver
over_agg_meaning (written.FoldOf f at open' e) = fold_over f (expr_meaning e)
over_agg_meaning (written.LastOf w open' e) = LastOver (expr_meaning e)

-- the place of a word of frames
abbrev pub spelled_at : Spelling → ℕ
spelled_at (Small at) = at
spelled_at (Capital at) = at

-- the place of a function over rows
abbrev pub over_agg_at : written.OverAgg → ℕ
over_agg_at (written.CountOf at open') = at
over_agg_at (written.FoldOf f at open' e) = at
over_agg_at (written.LastOf w open' e) = spelled_at w

-- the condition of FILTER, where there is one
abbrev pub filtering_meaning : Option written.Filtering → Option ExprTree
filtering_meaning None = None
filtering_meaning (Some (written.FilterOf w open' e)) = Some (expr_meaning e)

-- LAG looks one row back where no number says how many; that number then stands at LAG
abbrev pub back_or_one : Option Num → ℕ → Num
back_or_one None at = record { value = 1; at = at }
back_or_one (Some n) at = n

-- a number of rows before the row itself; UNBOUNDED has none, and takes all
abbrev pub bound_meaning : Bound → Option Num
bound_meaning (bound.Number n) = Some n
bound_meaning (bound.Unbounded w) = None

-- both spellings of the rows of a frame mean the same
abbrev pub rows_meaning : Option FrameRows → Option Num
rows_meaning None = None
rows_meaning (Some (rows.Short r b p)) = bound_meaning b
rows_meaning (Some (rows.Between f at c o)) = bound_meaning f.bound

-- what stands before OVER and the rows behind it mean a frame
abbrev pub frame_meaning : written.OverHead → Option FrameRows → FrameTree
frame_meaning (written.LagOf w open' e back) r = Lag (expr_meaning e) (back_or_one back (spelled_at w)) (spelled_at w)
frame_meaning (written.Ranged a f) r =
    Over (over_agg_meaning a) (filtering_meaning f) (rows_meaning r) (over_agg_at a)

-- the frame that a written function with OVER means
abbrev pub over_meaning : written.Over → FrameTree
over_meaning (written.OverOf head w open' p r) = frame_meaning head r

-- the items that are no aggregates and have no OVER; a column alone has its own name
abbrev pub plain_items : List written.Item → List ItemTree
plain_items [] = []
plain_items (written.Bare name ∷ is) = record { expr = Column name; name = name } ∷ plain_items is
plain_items (written.Named e name ∷ is) = record { expr = expr_meaning e; name = name } ∷ plain_items is
plain_items (written.Total a name ∷ is) = plain_items is
plain_items (written.Framed o name ∷ is) = plain_items is

-- the items that are aggregates
abbrev pub agg_items : List written.Item → List AggItemTree
agg_items [] = []
agg_items (written.Bare name ∷ is) = agg_items is
agg_items (written.Named e name ∷ is) = agg_items is
agg_items (written.Total a name ∷ is) = record { agg = agg_meaning a; name = name } ∷ agg_items is
agg_items (written.Framed o name ∷ is) = agg_items is

-- the items that are no aggregates, as frames: an expression without OVER is one over the row itself
abbrev pub frame_items : List written.Item → List FrameItemTree
frame_items [] = []
frame_items (written.Bare name ∷ is) = record { frame = Own (Column name); name = name } ∷ frame_items is
frame_items (written.Named e name ∷ is) = record { frame = Own (expr_meaning e); name = name } ∷ frame_items is
frame_items (written.Total a name ∷ is) = frame_items is
frame_items (written.Framed o name ∷ is) = record { frame = over_meaning o; name = name } ∷ frame_items is

-- an item is an aggregate
abbrev pub is_total : written.Item → Bool
is_total (written.Bare name) = false
is_total (written.Named e name) = false
is_total (written.Total a name) = true
is_total (written.Framed o name) = false

-- an item has OVER
abbrev pub is_framed : written.Item → Bool
is_framed (written.Bare name) = false
is_framed (written.Named e name) = false
is_framed (written.Total a name) = false
is_framed (written.Framed o name) = true

-- some item has OVER
abbrev pub has_over : List written.Item → Bool
has_over items = list_any is_framed items

-- the first item with OVER
abbrev pub first_over : List written.Item → Option written.Item
first_over [] = None
first_over (i ∷ is) = if is_framed i then Some i else first_over is

-- the PARTITION of a function with OVER
abbrev pub part_of : written.Over → Option Part
part_of (written.OverOf head w open' p r) = p

-- the PARTITION of an item with OVER
abbrev pub part_in : written.Item → Option Part
part_in (written.Bare name) = None
part_in (written.Named e name) = None
part_in (written.Total a name) = None
part_in (written.Framed o name) = part_of o

-- what PARTITION means: its key, and of how many keys rows are kept
abbrev pub part_meaning : Option Part → Option Slots
part_meaning None = None
part_meaning (Some p) = Some (record { key = p.grouping.key; groups = p.grouping.groups })

-- the PARTITION of a select is that of its first item with OVER
abbrev pub slots_in : List written.Item → Option Slots
slots_in items = option_and_then (λ i. part_meaning (part_in i)) (first_over items)

-- the variable of the bodies that a select makes
abbrev pub it : ℕ → Name
it at = record { text = codes "it"; at = at }

-- aggregates are over the rows that the filter keeps
abbrev pub filtered : Option ExprTree → QueryTree → QueryTree
filtered None source = source
filtered (Some e) source = Rows All (Some e) source

-- with one OVER the items of a select are frames, without any they are expressions over a row
abbrev pub by_over : Bool → List written.Item → Option ExprTree → QueryTree → QueryTree
by_over true items filter source = Frames (frame_items items) filter (slots_in items) source
by_over false items filter source = Rows (Items (plain_items items)) filter source

-- a select of aggregates gives one row for its whole source, a select of other items one for each row
abbrev pub by_items : Bool → List written.Item → Option ExprTree → QueryTree → QueryTree
by_items true items filter source = Total (agg_items items) (filtered filter source)
by_items false items filter source = by_over (has_over items) items filter source

-- the first item is an aggregate
abbrev pub begins_total : List written.Item → Bool
begins_total [] = false
begins_total (i ∷ is) = is_total i

-- what a select means over a source, by the star or by the sort of its first item
abbrev pub by_pick : written.Pick → Option ExprTree → QueryTree → QueryTree
by_pick (written.All at) filter source = Rows All filter source
by_pick (written.Items items) filter source = by_items (begins_total items) items filter source

-- the written items of a select; the star has none
abbrev pub items_in : written.Pick → List written.Item
items_in (written.All at) = []
items_in (written.Items items) = items

-- GROUP BY makes a body for each group
abbrev pub grouped : written.Pick → Option ExprTree → Option Grouping → QueryTree → QueryTree
grouped p filter None source = by_pick p filter source
grouped p filter (Some g) source =
    PerGroup (it g.at) (filtered filter source) g.key g.groups (Total (agg_items (items_in p)) (Read (it g.at))) g.at

-- a window makes a body for each window: it binds first, then WHERE, then GROUP BY
abbrev pub select_meaning : written.Pick → Option Window → Option ExprTree → Option Grouping → QueryTree → QueryTree
select_meaning p None filter g source = grouped p filter g source
select_meaning p (Some w) filter g source =
    Each w.measure (it w.at) source w.size w.advance (grouped p filter g (Read (it w.at))) w.at

-- two queries are joined one behind the other by UNION, in the order of arrival, or side by side by CONCAT
abbrev pub join_meaning : Joining → QueryTree → QueryTree → ℕ → QueryTree
join_meaning joining.Union l r at = Union l r at
join_meaning (joining.Arrival by' w) l r at = ByArrival l r at
join_meaning joining.Concat l r at = Concat l r at

-- two sources are joined by the key behind BY; the place of the join is that of ASOF
abbrev pub join_as_of : Spelling → QueryTree → QueryTree → Grouping → QueryTree
join_as_of w l r g = AsOf l r (record { key = g.key; groups = g.groups }) (spelled_at w)

-- a body for each group, or for each window of each group
abbrev pub each_group : Name → QueryTree → Grouping → Option RowWindow → QueryTree → ℕ → QueryTree
each_group var source g None body at = PerGroup var source g.key g.groups body at
each_group var source g (Some w) body at = Partition var source g.key g.groups w.size w.advance body at

-- the query that a written one means; brackets leave no trace
abbrev pub query_meaning : written.Query → QueryTree
query_meaning (written.Stream name) = Read name
query_meaning (written.InBrackets at q) = query_meaning q
query_meaning (written.Select p source window filter grouping) =
    select_meaning p window (option_map expr_meaning filter) grouping (query_meaning source)
query_meaning (written.Windows at var source window open' body) =
    Each window.measure var (query_meaning source) window.size window.advance (query_meaning body) at
query_meaning (written.Groups at var source grouping window open' body) =
    each_group var (query_meaning source) grouping window (query_meaning body) at
query_meaning (written.AsOf' w l r grouping) = join_as_of w (query_meaning l) (query_meaning r) grouping
query_meaning (written.Join' j at l r) = join_meaning j (query_meaning l) (query_meaning r) at

-- the statement that a written one means: its query under its name
abbrev pub statement_meaning : written.Statement → StatementTree
statement_meaning s = record { query = query_meaning s.query; name = s.name }
