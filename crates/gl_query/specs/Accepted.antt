-- Which statements are accepted over a schema.
use Rattle.std.specs.Prelude.{◌≡◌, ℕ, ◌*◌, ◌<◌, ◌≤◌, Bool, true, false, ◌&&◌, List, length, Option, Some, None, IsSome, IsTrue, bytes_eq, not, map}
use Rattle.std.specs.Int.{div_ceil}
use Rattle.std.specs.List.{AllByRecursion, IsDistinct}
use Rattle.gl_values.specs.Kinds.{is_number}
use Rattle.gl_bits.specs.Limits as limit
use Rattle.gl_values.specs.declared.kind.Kind.TheVariants.{Unsigned}
use Rattle.gl_schema.specs.declared.schema.Column.{Column}
use Rattle.gl_schema.specs.declared.schema.Stream.{Stream}
use Rattle.gl_schema.specs.declared.schema.Schema.{Schema}
use Rattle.gl_schema.specs.Schemas.{column_names, has_column, has_stream, kinds_of}
pub use Rattle.gl_frames.specs.Results.{most_slots}
use Rattle.gl_query.specs.declared.tree.Measure.{Measure}
use Rattle.gl_query.specs.declared.tree.Measure.TheVariants.{Tuples, Time}
use Rattle.gl_query.specs.declared.tree.Statement.{Statement}
use Rattle.gl_query.specs.Shapes.{ExprShape, AggShape, ItemShape, AggItemShape, FrameAggShape, FrameShape, FrameItemShape, PickShape, QueryShape, SlotsShape, query_shape}
use Rattle.gl_query.specs.Shapes as shape
use Rattle.gl_query.specs.Values.{HasKind, IsNumberOf, column_kind, kind_alone, kind_of}
use Rattle.gl_query.specs.Columns.{arrives, columns_of, is_closing, pace_of, colon, inside, item_column, reach_of, sources_of}
use Rattle.gl_query.specs.Windows.{copies_of}

-- at most 32 columns, no two of one name
pub record AreResultColumns (columns : List Column) : Type 0 where
  pub most : length columns ≤ limit.most_columns
  pub distinct : IsDistinct bytes_eq (column_names columns)

-- an argument that is added or averaged is a number
pub record IsSummed (columns : List Column) (e : ExprShape) : Type 0 where
  pub typed : HasKind columns (kind_alone e) e
  pub number : IsTrue (is_number (kind_of columns (kind_alone e) e))

-- at most 64 weights, each a number of the argument's kind
pub record IsWeighted (columns : List Column) (e : ExprShape) (weights : List ℕ) : Type 0 where
  pub summed : IsSummed columns e
  pub most : length weights ≤ limit.most_weights
  pub fit : AllByRecursion (IsNumberOf (kind_of columns (kind_alone e) e)) weights

-- a count is always accepted; the argument of any other aggregate has a kind, and what SUM, AVG and WSUM take is a
-- number
abbrev pub IsAgg : List Column → AggShape → Type 0
IsAgg columns shape.Count = Unit {0}
IsAgg columns (shape.Sum e) = IsSummed columns e
IsAgg columns (shape.Min e) = HasKind columns (kind_alone e) e
IsAgg columns (shape.Max e) = HasKind columns (kind_alone e) e
IsAgg columns (shape.Avg e) = IsSummed columns e
IsAgg columns (shape.Wsum e weights) = IsWeighted columns e weights

-- what a select picks has kinds, and at most 32 names, each once
pub record AreItems (columns : List Column) (items : List ItemShape) : Type 0 where
  pub typed : AllByRecursion (λ (i : ItemShape). HasKind columns (kind_alone i.expr) i.expr) items
  pub result : AreResultColumns (map (item_column columns) items)

-- the star is always accepted; a list of items is accepted where its expressions have kinds and its names are distinct
abbrev pub IsPick : List Column → PickShape → Type 0
IsPick columns shape.All = Unit {0}
IsPick columns (shape.Items items) = AreItems columns items

-- a condition is one bit
pub record IsCondition (columns : List Column) (e : ExprShape) : Type 0 where
  pub typed : HasKind columns (Unsigned 1) e
  pub bit : kind_of columns (Unsigned 1) e ≡ Unsigned 1

-- a filter may be absent; one that is there is a condition over the columns of the source
abbrev pub IsFilter : List Column → Option ExprShape → Type 0
IsFilter columns None = Unit {0}
IsFilter columns (Some e) = IsCondition columns e

-- a function over the rows of a frame is accepted as the aggregate is; the argument of LAST_VALUE has a kind
abbrev pub IsFrameAgg : List Column → FrameAggShape → Type 0
IsFrameAgg columns shape.CountOver = Unit {0}
IsFrameAgg columns (shape.SumOver e) = IsSummed columns e
IsFrameAgg columns (shape.MinOver e) = HasKind columns (kind_alone e) e
IsFrameAgg columns (shape.MaxOver e) = HasKind columns (kind_alone e) e
IsFrameAgg columns (shape.AvgOver e) = IsSummed columns e
IsFrameAgg columns (shape.LastOver e) = HasKind columns (kind_alone e) e

-- LAG looks back over 1 to 65,535 rows
pub record IsLag (columns : List Column) (e : ExprShape) (back : ℕ) : Type 0 where
  pub typed : HasKind columns (kind_alone e) e
  pub some : 1 ≤ back
  pub most : back < limit.most_rows

-- a frame has at most 65,536 rows, the row itself among them; or all rows up to the row itself
abbrev pub IsBack : Option ℕ → Type 0
IsBack None = Unit {0}
IsBack (Some back) = back < limit.most_rows

-- a function is accepted over the last rows, of which a condition may pick
pub record IsOver (columns : List Column) (agg : FrameAggShape) (filter : Option ExprShape) (back : Option ℕ)
    : Type 0 where
  pub typed : IsFrameAgg columns agg
  pub picks : IsFilter columns filter
  pub reach : IsBack back

-- a frame's expressions have kinds, and it looks back over some rows and not too many
abbrev pub IsFrame : List Column → FrameShape → Type 0
IsFrame columns (shape.Own e) = HasKind columns (kind_alone e) e
IsFrame columns (shape.Lag e back) = IsLag columns e back
IsFrame columns (shape.Over agg filter back) = IsOver columns agg filter back

-- SIZE and ADVANCE are 1 to 65,536, and at most 64 windows are open at once
pub record IsWindow (measure : Measure) (size advance : ℕ) : Type 0 where
  pub some_size : 1 ≤ size
  pub most_size : size ≤ limit.most_rows
  pub some_advance : 1 ≤ advance
  pub most_advance : advance ≤ limit.most_rows
  pub copies : copies_of measure size advance ≤ limit.most_copies

-- a select of rows is accepted where its items and its filter are, over what they may name
pub record IsRows (reach : List Column) (pick : PickShape) (filter : Option ExprShape) : Type 0 where
  pub picks : IsPick reach pick
  pub filters : IsFilter reach filter

-- a select of aggregates is accepted where each aggregate is, and their names make columns of a result
pub record IsTotal (reach : List Column) (aggs : List AggItemShape) (result : List Column) : Type 0 where
  pub typed : AllByRecursion (λ (i : AggItemShape). IsAgg reach i.agg) aggs
  pub columns : AreResultColumns result

-- the key of PARTITION or ASOF is a column, and GROUPS is 1 to 4,096
pub record AreSlots (source : List Column) (slots : SlotsShape) : Type 0 where
  pub known : IsTrue (has_column source slots.key)
  pub some_groups : 1 ≤ slots.groups
  pub most_groups : slots.groups ≤ most_slots

-- PARTITION may be absent
abbrev pub IsParted : List Column → Option SlotsShape → Type 0
IsParted columns None = Unit {0}
IsParted columns (Some s) = AreSlots columns s

-- a select of frames is accepted where PARTITION, each frame and the filter is, and the names of its items make columns
-- of a result; the key is a column of the source, and expressions are over what they may name
pub record AreFrames (source reach : List Column) (items : List FrameItemShape) (filter : Option ExprShape)
    (slots : Option SlotsShape) (result : List Column) : Type 0 where
  pub parted : IsParted source slots
  pub typed : AllByRecursion (λ (i : FrameItemShape). IsFrame reach i.frame) items
  pub columns : AreResultColumns result
  pub filters : IsFilter reach filter

-- the key of ASOF is a column of both sides, of one kind, GROUPS is 1 to 4,096, and no other name is on both sides
pub record AreJoined (lefts rights : List Column) (slots : SlotsShape) (result : List Column) : Type 0 where
  pub of_left : AreSlots lefts slots
  pub of_right : AreSlots rights slots
  pub alike : column_kind lefts slots.key ≡ column_kind rights slots.key
  pub columns : AreResultColumns result

-- the key is a column, GROUPS is 1 to 256, and the key's name is no other column's
pub record IsGrouping (source : List Column) (key : List ℕ) (groups : ℕ) (result : List Column) : Type 0 where
  pub known : IsTrue (has_column source key)
  pub some_groups : 1 ≤ groups
  pub most_groups : groups ≤ limit.most_groups
  pub columns : AreResultColumns result

-- the key and GROUPS are as for groups, SIZE and ADVANCE as for windows, and at most 256 windows of all groups are open
-- at once
pub record IsPartitioning (source : List Column) (key : List ℕ) (groups size advance : ℕ) (result : List Column)
    : Type 0 where
  pub grouping : IsGrouping source key groups result
  pub window : IsWindow Tuples size advance
  pub windows : groups * div_ceil size advance ≤ limit.most_windows

-- both sides give one row, or one for each row of the same source
pub record KeepPace (l r : QueryShape) : Type 0 where
  pub paced : IsSome (pace_of l)
  pub same : pace_of l ≡ pace_of r

-- what a query may read: the streams of a schema, whose rows have times, or the variable of the body around alone,
-- whose rows have none; and what its expressions may name, the parameters
pub record Scope : Type 0 where
  pub sources : List Stream
  pub timed : Bool

-- at the top a query reads the streams of the schema, whose rows have times
abbrev pub schema_scope : Schema → Scope
schema_scope schema = record { sources = sources_of schema; timed = true }

-- inside a body a query reads the body's variable alone, whose rows have no times
abbrev pub body_scope : Scope → List ℕ → List Column → Scope
body_scope scope var columns = record { sources = inside scope.sources var columns; timed = false }

-- a source of this name is there, and it is not that of the parameters
abbrev pub can_read : List Stream → List ℕ → Bool
can_read sources name = not (bytes_eq name colon) && has_stream sources name

-- the rows of a query have times: it is a stream of the schema itself
abbrev pub has_times : Scope → QueryShape → Bool
has_times scope (shape.Read name) = scope.timed
has_times scope q = false

-- a window of time is over rows that have times
abbrev pub can_measure : Measure → Scope → QueryShape → Bool
can_measure Tuples scope source = true
can_measure Time scope source = has_times scope source

-- the columns of a query in a scope
abbrev pub columns_under : Scope → QueryShape → List Column
columns_under scope q = columns_of scope.sources q

-- what an expression over the rows of a query may name in a scope
abbrev pub reach_under : Scope → QueryShape → List Column
reach_under scope q = reach_of scope.sources (columns_under scope q)

-- a query is accepted in a scope
abbrev pub IsAcceptedOver : Scope → QueryShape → Type 0
IsAcceptedOver scope (shape.Read name) = IsTrue (can_read scope.sources name)
IsAcceptedOver scope (shape.Rows pick filter source) =
    IsAcceptedOver scope source × IsRows (reach_under scope source) pick filter
IsAcceptedOver scope (shape.Total aggs source) =
    IsAcceptedOver scope source × IsTotal (reach_under scope source) aggs
    (columns_under scope (shape.Total aggs source))
IsAcceptedOver scope (shape.Frames items filter slots source) =
    IsAcceptedOver scope source
    × AreFrames (columns_under scope source) (reach_under scope source) items filter slots
    (columns_under scope (shape.Frames items filter slots source))
IsAcceptedOver scope (shape.Each measure var source size advance body) =
    IsAcceptedOver scope source × IsWindow measure size advance
    × IsAcceptedOver (body_scope scope var (columns_under scope source)) body × IsTrue (is_closing body)
    × IsTrue (can_measure measure scope source)
IsAcceptedOver scope (shape.PerGroup var source key groups body) =
    IsAcceptedOver scope source
    × IsGrouping (columns_under scope source) key groups
    (columns_under scope (shape.PerGroup var source key groups body))
    × IsAcceptedOver (body_scope scope var (columns_under scope source)) body × IsTrue (is_closing body)
IsAcceptedOver scope (shape.Partition var source key groups size advance body) =
    IsAcceptedOver scope source
    × IsPartitioning (columns_under scope source) key groups size advance
    (columns_under scope (shape.Partition var source key groups size advance body))
    × IsAcceptedOver (body_scope scope var (columns_under scope source)) body × IsTrue (is_closing body)
IsAcceptedOver scope (shape.Union l r) =
    IsAcceptedOver scope l × IsAcceptedOver scope r
    × (kinds_of (columns_under scope l) ≡ kinds_of (columns_under scope r))
IsAcceptedOver scope (shape.ByArrival l r) =
    IsAcceptedOver scope l × IsAcceptedOver scope r × IsTrue (arrives l && arrives r)
    × (kinds_of (columns_under scope l) ≡ kinds_of (columns_under scope r))
IsAcceptedOver scope (shape.AsOf l r slots) =
    IsAcceptedOver scope l × IsAcceptedOver scope r × IsTrue (arrives l && arrives r)
    × AreJoined (columns_under scope l) (columns_under scope r) slots (columns_under scope (shape.AsOf l r slots))
IsAcceptedOver scope (shape.Concat l r) =
    IsAcceptedOver scope l × IsAcceptedOver scope r × KeepPace l r
    × AreResultColumns (columns_under scope (shape.Concat l r))

-- a statement is accepted over a schema
abbrev pub IsAccepted : Schema → Statement → Type 0
IsAccepted schema statement = IsAcceptedOver (schema_scope schema) (query_shape statement.query)
