-- The results of a query: a relation between the rows of its sources, the rows of a result, and whether rows of further
-- keys were left out. After the operators of Mueller, Teubner and Alonso, Streams on Wires, PVLDB 2(1), 2009.
use Rattle.std.specs.Prelude.{ℕ, ◌+◌, Bool, true, false, List, [], ◌∷◌, ◌++◌, length, remove, map, filter, find, Option, Some, None, unwrap_or, option_map, bytes_eq, nat_eq, slice_index}
use Rattle.std.specs.List.{range_with_len}
use Rattle.gl_values.specs.declared.kind.Kind.TheVariants.{Unsigned}
use Rattle.gl_values.specs.Kinds.{width_of}
use Rattle.gl_values.specs.Lists.{IsInterleaving, groups, has_further}
use Rattle.gl_frames.specs.Frames.{frame_of, framed, framed_by_key, lag_of, own_of, last_value_of}
pub use Rattle.gl_frames.specs.Results.{IsChangedInPart}
use Rattle.gl_values.specs.Partitions.{parts}
use Rattle.gl_values.specs.Results.{Row, Results, IsInput, IsChanged, IsOfBoth, AreBeside, IsOfParts, IsOfGroup}
use Rattle.gl_arrival.specs.Places.{Placed, at_places}
use Rattle.gl_arrival.specs.Changes.{framed_at, framed_by_key_at, kept_at, mapped_at}
pub use Rattle.gl_arrival.specs.Results.{Arrivals, IsArrival, IsByArrival, IsChangedInPlace, IsPartedInPlace, IsWithoutPlaces}
use Rattle.gl_asof.specs.AsOf.{JoinBy}
pub use Rattle.gl_asof.specs.Results.{IsAsOf}
use Rattle.gl_values.specs.Totals.{average_of, count_of, greatest_of, least_of, sum_total, weighted_sum}
use Rattle.gl_schema.specs.declared.schema.Column.{Column}
use Rattle.gl_schema.specs.declared.schema.Stream.{Stream}
use Rattle.gl_schema.specs.declared.schema.Schema.{Schema}
use Rattle.gl_schema.specs.Beats.{Inputs}
use Rattle.gl_query.specs.declared.tree.Statement.{Statement}
use Rattle.gl_query.specs.Shapes.{ExprShape, AggShape, ItemShape, AggItemShape, FrameAggShape, FrameShape, FrameItemShape, PickShape, QueryShape, SlotsShape, query_shape}
use Rattle.gl_query.specs.Shapes as shape
use Rattle.gl_query.specs.Values.{column_number, kind_alone, kind_of, value_of}
use Rattle.gl_query.specs.Columns.{but_key, columns_of, colon, parameter_stream, parameters_in, reach_of}
use Rattle.gl_query.specs.Windows.{parts_of}

-- ---- one step on rows

-- what the expressions of a select see: the columns of its source with the parameters behind them, and the words of the
-- parameters
pub record Reach : Type 0 where
  pub columns : List Column
  pub words : Row

-- each row with the words of the parameters behind it
abbrev pub widened : Row → List Row → List Row
widened words rows = map (λ (row : Row). row ++ words) rows

-- the row that is picked of a row
abbrev pub picked : Reach → PickShape → Row → Row
picked reach shape.All row = row
picked reach (shape.Items items) row =
    map (λ (i : ItemShape). value_of reach.columns (kind_alone i.expr) i.expr (row ++ reach.words)) items

-- a filter keeps the rows where it is 1; without one all rows stay
abbrev pub keeps : List Column → Option ExprShape → Row → Bool
keeps columns None row = true
keeps columns (Some e) row = nat_eq (value_of columns (Unsigned 1) e row) 1

-- whether a filter keeps a row of a source, which has no words of the parameters
abbrev pub is_kept : Reach → Option ExprShape → Row → Bool
is_kept reach condition row = keeps reach.columns condition (row ++ reach.words)

-- the rows that satisfy a condition, in their order; all of them where there is none
abbrev pub kept : Reach → Option ExprShape → List Row → List Row
kept reach condition rows = filter (is_kept reach condition) rows

-- the values of an expression over rows
abbrev pub values_of : List Column → ExprShape → List Row → List ℕ
values_of columns e rows = map (value_of columns (kind_alone e) e) rows

-- an aggregate over rows
abbrev pub agg_value : List Column → List Row → AggShape → ℕ
agg_value columns rows shape.Count = count_of rows
agg_value columns rows (shape.Sum e) =
    sum_total (width_of (kind_of columns (kind_alone e) e)) (values_of columns e rows)
agg_value columns rows (shape.Min e) = least_of (kind_of columns (kind_alone e) e) (values_of columns e rows)
agg_value columns rows (shape.Max e) = greatest_of (kind_of columns (kind_alone e) e) (values_of columns e rows)
agg_value columns rows (shape.Avg e) = average_of (kind_of columns (kind_alone e) e) (values_of columns e rows)
agg_value columns rows (shape.Wsum e weights) =
    weighted_sum (width_of (kind_of columns (kind_alone e) e)) weights (values_of columns e rows)

-- the one row of aggregates
abbrev pub total_row : List Column → List AggItemShape → List Row → Row
total_row columns aggs rows = map (λ (i : AggItemShape). agg_value columns rows i.agg) aggs

-- a function over the rows of a frame: the last rows of those up to a row, of which a condition picks
abbrev pub frame_agg_value : List Column → Option ℕ → (Row → Bool) → List Row → FrameAggShape → ℕ
frame_agg_value columns back passes rows shape.CountOver = count_of (frame_of back passes rows)
frame_agg_value columns back passes rows (shape.SumOver e) =
    sum_total (width_of (kind_of columns (kind_alone e) e)) (values_of columns e (frame_of back passes rows))
frame_agg_value columns back passes rows (shape.MinOver e) =
    least_of (kind_of columns (kind_alone e) e) (values_of columns e (frame_of back passes rows))
frame_agg_value columns back passes rows (shape.MaxOver e) =
    greatest_of (kind_of columns (kind_alone e) e) (values_of columns e (frame_of back passes rows))
frame_agg_value columns back passes rows (shape.AvgOver e) =
    average_of (kind_of columns (kind_alone e) e) (values_of columns e (frame_of back passes rows))
frame_agg_value columns back passes rows (shape.LastOver e) =
    last_value_of (value_of columns (kind_alone e) e) back passes rows

-- what a frame makes of the rows up to a row, the row itself last
abbrev pub frame_value : List Column → List Row → FrameShape → ℕ
frame_value columns rows (shape.Own e) = own_of (value_of columns (kind_alone e) e) rows
frame_value columns rows (shape.Lag e back) = lag_of (value_of columns (kind_alone e) e) back rows
frame_value columns rows (shape.Over agg filter back) = frame_agg_value columns back (keeps columns filter) rows agg

-- what a select of frames makes of the rows up to a row: a value for each item
abbrev pub frame_row : List Column → List FrameItemShape → List Row → Row
frame_row columns items rows = map (λ (i : FrameItemShape). frame_value columns rows i.frame) items

-- the same of rows without the words of the parameters
abbrev pub reached_row : Reach → List FrameItemShape → List Row → Row
reached_row reach items rows = frame_row reach.columns items (widened reach.words rows)

-- a select of frames over the rows that a filter keeps: each of them has a row, made of those up to it. With PARTITION
-- each of the first keys has one, made of those of its key, and whether rows of further keys came is told
abbrev pub IsFramed : List Column → Reach → List FrameItemShape → Option ExprShape → Option SlotsShape → Results
    → Results
IsFramed columns reach items filter None source =
    IsChanged source (λ rows. framed (reached_row reach items) (kept reach filter rows))
IsFramed columns reach items filter (Some s) source =
    let key_of : Row → ℕ = λ row. slice_index row (column_number columns s.key) in
    IsChangedInPart source
    (λ rows. framed_by_key s.groups key_of (reached_row reach items) (kept reach filter rows))
    (λ rows. has_further s.groups key_of (kept reach filter rows))

-- the same of rows at places: each row is at the place of the row that it is for
abbrev pub IsFramedInPlace : List Column → Reach → List FrameItemShape → Option ExprShape → Option SlotsShape
    → Arrivals → Arrivals
IsFramedInPlace columns reach items filter None source =
    IsChangedInPlace source (λ xs. framed_at (reached_row reach items) (kept_at (is_kept reach filter) xs))
IsFramedInPlace columns reach items filter (Some s) source =
    let key_of : Row → ℕ = λ row. slice_index row (column_number columns s.key) in
    IsPartedInPlace source
    (λ xs. framed_by_key_at s.groups key_of (reached_row reach items) (kept_at (is_kept reach filter) xs))
    (λ rows. has_further s.groups key_of (kept reach filter rows))

-- ---- joins

-- a row of the left side, and the last one of the right side without its key; zeros where there is none
abbrev pub beside_last : List Column → List ℕ → Row → Option Row → Row
beside_last rights key row None = row ++ map (λ (c : Column). 0) (but_key key rights)
beside_last rights key row (Some last) = row ++ remove last (column_number rights key)

-- how ASOF joins rows of these columns: by the key's column of each side, for the first keys that come on either
abbrev pub join_by : List Column → List Column → SlotsShape → JoinBy Row Row Row
join_by lefts rights slots = record {
  groups = slots.groups;
  left_key = λ row. slice_index row (column_number lefts slots.key);
  right_key = λ row. slice_index row (column_number rights slots.key);
  join = beside_last rights slots.key;
}

-- ---- what a query sees

-- a source that a query may read, and its rows with their places; a stream's have times, and there are so many ticks
-- in all
pub record Source : Type 0 where
  pub stream : Stream
  pub rows : List Row
  pub places : List ℕ
  pub times : List ℕ
  pub ticks : ℕ

-- all sources that a query may read
abbrev pub Env : Type 0
Env = List Source

-- the streams of the sources
abbrev pub streams_of : Env → List Stream
streams_of env = map (λ (s : Source). s.stream) env

-- what is said of a source by its name
abbrev pub said_of : {A : Type 0} → (Source → A) → A → Env → List ℕ → A
said_of said none env name = unwrap_or (option_map said (find (λ (s : Source). bytes_eq name s.stream.name) env)) none

-- the rows of a source by its name
abbrev pub rows_of : Env → List ℕ → List Row
rows_of env name = said_of (λ (s : Source). s.rows) [] env name

-- the rows of a source by its name, each at its place
abbrev pub placed_rows_of : Env → List ℕ → List (Placed Row)
placed_rows_of env name = said_of (λ (s : Source). at_places s.rows s.places) [] env name

-- the times of the rows of a query that is a source itself; none for any other query
abbrev pub times_in : Env → QueryShape → List ℕ
times_in env (shape.Read name) = said_of (λ (s : Source). s.times) [] env name
times_in env q = []

-- how many ticks come beside the rows of a query that is a source itself; 0 for any other query
abbrev pub ticks_in : Env → QueryShape → ℕ
ticks_in env (shape.Read name) = said_of (λ (s : Source). s.ticks) 0 env name
ticks_in env q = 0

-- the columns of a query in an environment
abbrev pub columns_in : Env → QueryShape → List Column
columns_in env q = columns_of (streams_of env) q

-- the parameters as a source, whose one row has their words
abbrev pub parameter_source : List Column → Row → Source
parameter_source parameters words =
    record { stream = parameter_stream parameters; rows = words ∷ []; places = 0 ∷ []; times = []; ticks = 0 }

-- the first row of some; a row without words where there is none
abbrev pub first_row : List Row → Row
first_row [] = []
first_row (row ∷ rows) = row

-- the words of the parameters
abbrev pub words_in : Env → Row
words_in env = first_row (rows_of env colon)

-- what an expression over the rows of a query sees in an environment
abbrev pub reach_in : Env → QueryShape → Reach
reach_in env q = record { columns = reach_of (streams_of env) (columns_in env q); words = words_in env }

-- the rows of a variable alone, which have no times; the place of each is its position
abbrev pub variable_source : List ℕ → List Column → List Row → Source
variable_source var columns rows =
    record {
      stream = record { name = var; columns = columns };
      rows = rows;
      places = range_with_len 0 (length rows);
      times = [];
      ticks = 0;
    }

-- a body sees the parameters, and its own variable alone
abbrev pub only : Env → List ℕ → List Column → List Row → Env
only env var columns rows =
    parameter_source (parameters_in (streams_of env)) (words_in env) ∷ variable_source var columns rows ∷ []

-- the streams of a schema with their inputs, which go by the streams' numbers
abbrev pub numbered : ℕ → List Stream → Inputs → Env
numbered k [] inputs = []
numbered k (s ∷ streams) inputs =
    record {
      stream = s;
      rows = inputs.rows k;
      places = inputs.places k;
      times = inputs.times k;
      ticks = inputs.ticks;
    } ∷ numbered (k + 1) streams inputs

-- the parameters of a schema with their words, and each stream with the rows, places, times and ticks that come over it
abbrev pub env_of : Schema → Inputs → Env
env_of schema inputs = parameter_source schema.parameters inputs.sets ∷ numbered 0 schema.streams inputs

-- ---- the results of a query

-- no result
abbrev pub NoArrivals : Arrivals
NoArrivals out spill = ⊥

-- the results of a query each of whose rows comes of one row that came, with the places of those rows; another query
-- has none. The right side of a union by arrival comes behind the left one's rows of its place, and that of ASOF before
abbrev pub ArrivesIn : QueryShape → Env → Arrivals
ArrivesIn (shape.Read name) env = IsArrival (placed_rows_of env name)
ArrivesIn (shape.Rows pick filter source) env =
    let reach = reach_in env source in
    IsChangedInPlace (ArrivesIn source env)
    (λ xs. mapped_at (picked reach pick) (kept_at (is_kept reach filter) xs))
ArrivesIn (shape.Total aggs source) env = NoArrivals
ArrivesIn (shape.Frames items filter slots source) env =
    IsFramedInPlace (columns_in env source) (reach_in env source) items filter slots (ArrivesIn source env)
ArrivesIn (shape.Each measure var source size advance body) env = NoArrivals
ArrivesIn (shape.PerGroup var source key n body) env = NoArrivals
ArrivesIn (shape.Partition var source key n size advance body) env = NoArrivals
ArrivesIn (shape.Union l r) env = NoArrivals
ArrivesIn (shape.ByArrival l r) env = IsByArrival (ArrivesIn l env) (ArrivesIn r env)
ArrivesIn (shape.AsOf l r slots) env =
    IsAsOf (join_by (columns_in env l) (columns_in env r) slots) (ArrivesIn l env) (ArrivesIn r env)
ArrivesIn (shape.Concat l r) env = NoArrivals

-- the results of a query in an environment
abbrev pub IsResultIn : QueryShape → Env → Results
IsResultIn (shape.Read name) env = IsInput (rows_of env name)
IsResultIn (shape.Rows pick filter source) env =
    let reach = reach_in env source in
    IsChanged (IsResultIn source env) (λ rows. map (picked reach pick) (kept reach filter rows))
IsResultIn (shape.Total aggs source) env =
    let reach = reach_in env source in
    IsChanged (IsResultIn source env) (λ rows. total_row reach.columns aggs (widened reach.words rows) ∷ [])
IsResultIn (shape.Frames items filter slots source) env =
    IsFramed (columns_in env source) (reach_in env source) items filter slots (IsResultIn source env)
IsResultIn (shape.Each measure var source size advance body) env =
    let columns = columns_in env source in
    IsOfParts (IsResultIn source env) (parts_of measure size advance (times_in env source) (ticks_in env source))
    (λ rows. IsResultIn body (only env var columns rows)) (λ rows. false)
IsResultIn (shape.PerGroup var source key n body) env =
    let columns = columns_in env source in
    let key_of : Row → ℕ = λ row. slice_index row (column_number columns key) in
    IsOfParts (IsResultIn source env) (groups n key_of) (IsOfGroup (λ rows. IsResultIn body (only env var columns rows)))
    (has_further n key_of)
IsResultIn (shape.Partition var source key n size advance body) env =
    let columns = columns_in env source in
    let key_of : Row → ℕ = λ row. slice_index row (column_number columns key) in
    IsOfParts (IsResultIn source env) (parts n key_of size advance)
    (IsOfGroup (λ rows. IsResultIn body (only env var columns rows))) (has_further n key_of)
IsResultIn (shape.Union l r) env = IsOfBoth (IsResultIn l env) (IsResultIn r env) IsInterleaving
IsResultIn (shape.ByArrival l r) env = IsWithoutPlaces (IsByArrival (ArrivesIn l env) (ArrivesIn r env))
IsResultIn (shape.AsOf l r slots) env =
    IsWithoutPlaces (IsAsOf (join_by (columns_in env l) (columns_in env r) slots) (ArrivesIn l env) (ArrivesIn r env))
IsResultIn (shape.Concat l r) env = IsOfBoth (IsResultIn l env) (IsResultIn r env) AreBeside

-- what a statement means over a schema and its inputs
abbrev pub IsResult : Schema → Statement → Inputs → Results
IsResult schema statement inputs = IsResultIn (query_shape statement.query) (env_of schema inputs)
