-- The columns of a query, when it closes, whether its rows come one by one, and its pace.
use Rattle.std.specs.Prelude.{ℕ, Bool, true, false, not, ◌&&◌, List, [], ◌∷◌, ◌++◌, map, Option, Some, None, find, remove, unwrap_or, option_map, bytes_eq}
use Rattle.gl_values.specs.declared.kind.Kind.{Kind}
use Rattle.gl_values.specs.declared.kind.Kind.TheVariants.{Unsigned}
use Rattle.gl_schema.specs.declared.schema.Column.{Column}
use Rattle.gl_schema.specs.declared.schema.Stream.{Stream}
use Rattle.gl_schema.specs.declared.schema.Schema.{Schema}
use Rattle.gl_query.specs.Shapes.{AggShape, ItemShape, AggItemShape, FrameAggShape, FrameShape, FrameItemShape, PickShape, QueryShape}
use Rattle.gl_query.specs.Shapes as shape
use Rattle.gl_query.specs.Values.{column_kind, column_number, kind_alone, kind_of}
use Rattle.gl_query.specs.Windows.{is_time}

-- the columns of a source by its name
abbrev pub source_columns : List Stream → List ℕ → List Column
source_columns sources name = unwrap_or (option_map (λ s. s.columns) (find (λ s. bytes_eq name s.name) sources)) []

-- the name of the source that has the parameters: no text can name it, since no name has a colon
abbrev pub colon : List ℕ
colon = 58 ∷ []

-- the parameters as a source
abbrev pub parameter_stream : List Column → Stream
parameter_stream parameters = record { name = colon; columns = parameters }

-- the parameters among what a query may read
abbrev pub parameters_in : List Stream → List Column
parameters_in sources = source_columns sources colon

-- what a query may read over a schema: its parameters, and its streams
abbrev pub sources_of : Schema → List Stream
sources_of schema = parameter_stream schema.parameters ∷ schema.streams

-- a variable alone
abbrev pub variable : List ℕ → List Column → List Stream
variable var columns = record { name = var; columns = columns } ∷ []

-- what a body sees: the parameters, and its own variable alone
abbrev pub inside : List Stream → List ℕ → List Column → List Stream
inside sources var columns = parameter_stream (parameters_in sources) ∷ variable var columns

-- the name by which an expression reads a parameter: a colon and its own
abbrev pub marked : Column → Column
marked p = record { name = 58 ∷ p.name; kind = p.kind }

-- what an expression over columns may name: these, and the parameters behind them
abbrev pub reach_of : List Stream → List Column → List Column
reach_of sources columns = columns ++ map marked (parameters_in sources)

-- `count` gives 32 bits, every other aggregate the kind of its argument
abbrev pub agg_kind : List Column → AggShape → Kind
agg_kind columns shape.Count = Unsigned 32
agg_kind columns (shape.Sum e) = kind_of columns (kind_alone e) e
agg_kind columns (shape.Min e) = kind_of columns (kind_alone e) e
agg_kind columns (shape.Max e) = kind_of columns (kind_alone e) e
agg_kind columns (shape.Avg e) = kind_of columns (kind_alone e) e
agg_kind columns (shape.Wsum e weights) = kind_of columns (kind_alone e) e

-- over the rows of a frame `count` gives 32 bits too, every other function the kind of its argument
abbrev pub frame_agg_kind : List Column → FrameAggShape → Kind
frame_agg_kind columns shape.CountOver = Unsigned 32
frame_agg_kind columns (shape.SumOver e) = kind_of columns (kind_alone e) e
frame_agg_kind columns (shape.MinOver e) = kind_of columns (kind_alone e) e
frame_agg_kind columns (shape.MaxOver e) = kind_of columns (kind_alone e) e
frame_agg_kind columns (shape.AvgOver e) = kind_of columns (kind_alone e) e
frame_agg_kind columns (shape.LastOver e) = kind_of columns (kind_alone e) e

-- an earlier row's value has the kind that its expression has
abbrev pub frame_kind : List Column → FrameShape → Kind
frame_kind columns (shape.Own e) = kind_of columns (kind_alone e) e
frame_kind columns (shape.Lag e back) = kind_of columns (kind_alone e) e
frame_kind columns (shape.Over agg filter back) = frame_agg_kind columns agg

-- an item gives a column of its name, whose kind is the one that its expression has alone
abbrev pub item_column : List Column → ItemShape → Column
item_column columns i = record { name = i.name; kind = kind_of columns (kind_alone i.expr) i.expr }

-- a named aggregate gives a column of its name, whose kind is the aggregate's
abbrev pub agg_column : List Column → AggItemShape → Column
agg_column columns i = record { name = i.name; kind = agg_kind columns i.agg }

-- a named frame gives a column of its name, whose kind is the frame's
abbrev pub frame_column : List Column → FrameItemShape → Column
frame_column columns i = record { name = i.name; kind = frame_kind columns i.frame }

-- the star keeps the columns of the source; items give one column each, in their order, from what they may name
abbrev pub picked_columns : (columns reach : List Column) → PickShape → List Column
picked_columns columns reach shape.All = columns
picked_columns columns reach (shape.Items items) = map (item_column reach) items

-- the columns of the right side of ASOF without the key's
abbrev pub but_key : List ℕ → List Column → List Column
but_key key columns = remove columns (column_number columns key)

-- the columns of a query over the sources that it sees
abbrev pub columns_of : List Stream → QueryShape → List Column
columns_of sources (shape.Read name) = source_columns sources name
columns_of sources (shape.Rows pick filter source) =
    picked_columns (columns_of sources source) (reach_of sources (columns_of sources source)) pick
columns_of sources (shape.Total aggs source) = map (agg_column (reach_of sources (columns_of sources source))) aggs
columns_of sources (shape.Frames items filter slots source) =
    map (frame_column (reach_of sources (columns_of sources source))) items
columns_of sources (shape.Each measure var source size advance body) =
    columns_of (inside sources var (columns_of sources source)) body
columns_of sources (shape.PerGroup var source key groups body) =
    record { name = key; kind = column_kind (columns_of sources source) key } ∷ columns_of
    (inside sources var (columns_of sources source)) body
columns_of sources (shape.Partition var source key groups size advance body) =
    record { name = key; kind = column_kind (columns_of sources source) key } ∷ columns_of
    (inside sources var (columns_of sources source)) body
columns_of sources (shape.Union l r) = columns_of sources l
columns_of sources (shape.ByArrival l r) = columns_of sources l
columns_of sources (shape.AsOf l r slots) = columns_of sources l ++ but_key slots.key (columns_of sources r)
columns_of sources (shape.Concat l r) = columns_of sources l ++ columns_of sources r

-- a closing query gives its rows at the end of its input
abbrev pub is_closing : QueryShape → Bool
is_closing (shape.Read name) = false
is_closing (shape.Rows pick filter source) = is_closing source
is_closing (shape.Total aggs source) = true
is_closing (shape.Frames items filter slots source) = is_closing source
is_closing (shape.Each measure var source size advance body) = not (is_time measure) && is_closing source
is_closing (shape.PerGroup var source key groups body) = true
is_closing (shape.Partition var source key groups size advance body) = is_closing source
is_closing (shape.Union l r) = is_closing l && is_closing r
is_closing (shape.ByArrival l r) = false
is_closing (shape.AsOf l r slots) = false
is_closing (shape.Concat l r) = is_closing l && is_closing r

-- whether each row of a query comes of one row that came: of a source, of a select over such a query, with frames or
-- without, of a union by arrival, and of an as-of join, whose rows come of the left side's
abbrev pub arrives : QueryShape → Bool
arrives (shape.Read name) = true
arrives (shape.Rows pick filter source) = arrives source
arrives (shape.Total aggs source) = false
arrives (shape.Frames items filter slots source) = arrives source
arrives (shape.Each measure var source size advance body) = false
arrives (shape.PerGroup var source key groups body) = false
arrives (shape.Partition var source key groups size advance body) = false
arrives (shape.Union l r) = false
arrives (shape.ByArrival l r) = true
arrives (shape.AsOf l r slots) = true
arrives (shape.Concat l r) = false

-- how many rows a query gives: one, or one for each row of a source
pub data Pace : Type 0 where
  Once : Pace
  Step : (source : List ℕ) → Pace

-- what stands in the way of a pace: a filter, or PARTITION
abbrev pub unfiltered : {A B : Type 0} → Option A → Option B → Option B
unfiltered None pace = pace
unfiltered (Some e) pace = None

-- the pace of a query, where it has one: filters, PARTITION, ASOF, windows, groups and unions have none, and CONCAT
-- has its left side's
abbrev pub pace_of : QueryShape → Option Pace
pace_of (shape.Read name) = Some (Step name)
pace_of (shape.Rows pick filter source) = unfiltered filter (pace_of source)
pace_of (shape.Total aggs source) = Some Once
pace_of (shape.Frames items filter slots source) = unfiltered filter (unfiltered slots (pace_of source))
pace_of (shape.Each measure var source size advance body) = None
pace_of (shape.PerGroup var source key groups body) = None
pace_of (shape.Partition var source key groups size advance body) = None
pace_of (shape.Union l r) = None
pace_of (shape.ByArrival l r) = None
pace_of (shape.AsOf l r slots) = None
pace_of (shape.Concat l r) = pace_of l
