-- Laws of the meaning of queries.
use Rattle.std.specs.Prelude.{◌≡◌, ◌↔◌, ℕ, ◌≤◌, Bool, List, length, filter_map, None, IsTrue}
use Rattle.std.specs.List.{AllByRecursion}
use Rattle.gl_arrival.specs.Places.{NeverFall, Placed}
use Rattle.gl_arrival.specs.Places as arrival
use Rattle.gl_asof.specs.AsOf.{JoinBy, both_sides, row_for}
use Rattle.gl_query.specs.Shapes.{QueryShape, SlotsShape}
use Rattle.gl_query.specs.Shapes as shape
use Rattle.gl_values.specs.Kinds.{IsKind}
use Rattle.gl_values.specs.Results.{Row, AreSame}
use Rattle.gl_query.specs.declared.tree.Statement.{Statement}
use Rattle.gl_query.specs.Shapes.{query_shape, statement_shape}
use Rattle.gl_query.specs.Trees.{StatementTree, statement_tree}
use Rattle.gl_query.specs.Alike.{query_alike, statement_alike}
use Rattle.gl_schema.specs.declared.schema.Column.{Column}
use Rattle.gl_schema.specs.declared.schema.Schema.{Schema}
use Rattle.gl_schema.specs.Beats.{HavePlaces, Inputs}
use Rattle.gl_schema.specs.Schemas.{IsRowOf, IsSchema}
use Rattle.gl_query.specs.Columns.{arrives, columns_of, parameters_in, source_columns, sources_of}
use Rattle.gl_query.specs.Sizes.{HasItems}
use Rattle.gl_query.specs.Faults.{first_fault}
use Rattle.gl_query.specs.Results.{Arrivals, ArrivesIn, Env, IsResult, IsResultIn, IsWithoutPlaces, columns_in, env_of, join_by, only, placed_rows_of, rows_of, streams_of, words_in}
use Rattle.gl_query.specs.Accepted.{AreResultColumns, Scope, IsAcceptedOver, schema_scope}
use Rattle.gl_query.specs.Windows.{HasNoTime}

-- no UNION without BY ARRIVAL stands in a query
abbrev pub HasNoUnion : QueryShape → Type 0
HasNoUnion (shape.Read name) = Unit {0}
HasNoUnion (shape.Rows pick filter source) = HasNoUnion source
HasNoUnion (shape.Total aggs source) = HasNoUnion source
HasNoUnion (shape.Frames items filter slots source) = HasNoUnion source
HasNoUnion (shape.Each measure var source size advance body) = HasNoUnion source × HasNoUnion body
HasNoUnion (shape.PerGroup var source key groups body) = HasNoUnion source × HasNoUnion body
HasNoUnion (shape.Partition var source key groups size advance body) = HasNoUnion source × HasNoUnion body
HasNoUnion (shape.Union l r) = ⊥
HasNoUnion (shape.ByArrival l r) = HasNoUnion l × HasNoUnion r
HasNoUnion (shape.AsOf l r slots) = HasNoUnion l × HasNoUnion r
HasNoUnion (shape.Concat l r) = HasNoUnion l × HasNoUnion r

-- without such a UNION there is at most one result
abbrev pub HasOneResult : Type 0
HasOneResult =
    (q : QueryShape) → HasNoUnion q → (env : Env) (out out' : List Row) (spill spill' : Bool)
    → IsResultIn q env out spill → IsResultIn q env out' spill' → AreSame out out' spill spill'

-- where each row of a query comes of one row that came, its results are those with places, without them
abbrev pub ArrivalsAreResults : Type 0
ArrivalsAreResults = (q : QueryShape) → IsTrue (arrives q) → (env : Env) (out : List Row) (spill : Bool)
    → IsResultIn q env out spill ↔ IsWithoutPlaces (ArrivesIn q env) out spill

-- no row of a source stands behind one at a later place
abbrev pub PlacesNeverFall : Env → Type 0
PlacesNeverFall env = (name : List ℕ) → NeverFall (placed_rows_of env name)

-- that is so of the streams of a schema where each row has a place, in their order, and of the variable of a body
pub record SourcesNeverFall : Type 0 where
  pub of_streams : (schema : Schema) (inputs : Inputs) → HavePlaces inputs → PlacesNeverFall (env_of schema inputs)
  pub of_bodies :
      (env : Env) (var : List ℕ) (columns : List Column) (rows : List Row) → PlacesNeverFall (only env var columns rows)

-- where it is so of the sources, no row of a result stands behind one at a later place
abbrev pub ArrivalsNeverFall : Type 0
ArrivalsNeverFall = (q : QueryShape) (env : Env) (out : List (Placed Row)) (spill : Bool)
    → PlacesNeverFall env → ArrivesIn q env out spill → NeverFall out

-- for each row of the left side, in their order, whose key is among the first ones that come on either side, that row
-- beside the last row of the right side that has its key and came no later
pub record IsRowForRow (by : JoinBy Row Row Row) (Left Right : Arrivals) (out : List (Placed Row)) : Type 0 where
  pub left : List (Placed Row)
  pub right : List (Placed Row)
  pub left_spill : Bool
  pub right_spill : Bool
  pub of_left : Left left left_spill
  pub of_right : Right right right_spill
  pub rows : out ≡ filter_map (row_for by (arrival.rows_of (both_sides left right)) right) left

-- where no row of a source stands behind one at a later place, each result of ASOF is such
abbrev pub AsOfIsRowForRow : Type 0
AsOfIsRowForRow = (l r : QueryShape) (slots : SlotsShape) (env : Env) (out : List (Placed Row)) (spill : Bool)
    → PlacesNeverFall env → ArrivesIn (shape.AsOf l r slots) env out spill
    → IsRowForRow (join_by (columns_in env l) (columns_in env r) slots) (ArrivesIn l env) (ArrivesIn r env) out

-- a result of a query in an environment
pub record HasResult (q : QueryShape) (env : Env) : Type 0 where
  pub rows : List Row
  pub spill : Bool
  pub is : IsResultIn q env rows spill

-- what a query may read in an environment, where its rows count as timed or not
abbrev pub scope_of : Env → Bool → Scope
scope_of env timed = record { sources = streams_of env; timed = timed }

-- an accepted query has a result, whatever the rows of its sources
abbrev pub AcceptedHaveResults : Type 0
AcceptedHaveResults =
    (q : QueryShape) (env : Env) (timed : Bool) → IsAcceptedOver (scope_of env timed) q → HasResult q env

-- a property of rows of these columns holds of the rows of each source, and of the words of the parameters
pub record HoldsIn (P : List Column → Row → Type 0) (env : Env) : Type 0 where
  pub rows : (name : List ℕ) → AllByRecursion (P (source_columns (streams_of env) name)) (rows_of env name)
  pub words : P (parameters_in (streams_of env)) (words_in env)

-- a fact that holds of the rows of the sources holds of the rows of each result of an accepted query
abbrev pub HoldsOfResults : (List Column → Row → Type 0) → Type 0
HoldsOfResults P = (q : QueryShape) (env : Env) (timed : Bool) (out : List Row) (spill : Bool)
    → IsAcceptedOver (scope_of env timed) q → HoldsIn P env → IsResultIn q env out spill
    → AllByRecursion (P (columns_in env q)) out

-- a row has as many numbers as there are columns
abbrev pub IsLongAs : List Column → Row → Type 0
IsLongAs columns row = length row ≡ length columns

-- where the rows of the sources are as long as their columns are many, so are those of a result
abbrev pub ResultsAreLong : Type 0
ResultsAreLong = HoldsOfResults IsLongAs

-- where the rows of the sources fit the kinds of their columns, so do those of a result
abbrev pub ResultsFit : Type 0
ResultsFit = HoldsOfResults IsRowOf

-- without a window of time a result goes by the rows of the streams, their places and the words of the parameters,
-- whatever the rows' times, or ticks
abbrev pub ResultsGoByRows : Type 0
ResultsGoByRows =
    (schema : Schema) (statement : Statement) (inputs others : Inputs) (out : List Row) (spill : Bool)
    → HasNoTime (query_shape statement.query) → ((k : ℕ) → inputs.rows k ≡ others.rows k)
    → ((k : ℕ) → inputs.places k ≡ others.places k) → inputs.sets ≡ others.sets
    → IsResult schema statement inputs out spill → IsResult schema statement others out spill

-- a statement without its places is the tree without them
abbrev pub TreesAreAlike : Type 0
TreesAreAlike = (s : Statement) → statement_alike (statement_tree s) ≡ statement_shape s

-- the kinds of columns are kinds
abbrev pub AreKinds : List Column → Type 0
AreKinds columns = AllByRecursion (λ (c : Column). IsKind c.kind) columns

-- columns of a result: at least one where each select has an item, at most 32, no two of one name, of kinds that are
-- kinds
pub record HasRealColumns (schema : Schema) (q : QueryShape) : Type 0 where
  pub some' : HasItems q → 1 ≤ length (columns_of (sources_of schema) q)
  pub result : AreResultColumns (columns_of (sources_of schema) q)
  pub kinds : AreKinds (columns_of (sources_of schema) q)

-- an accepted query has such columns
abbrev pub AcceptedHaveRealColumns : Type 0
AcceptedHaveRealColumns =
    (schema : Schema) (q : QueryShape) → IsSchema schema → IsAcceptedOver (schema_scope schema) q
    → HasRealColumns schema q

-- a statement has no first fault exactly where it is accepted
abbrev pub FirstFaultsAreExact : Type 0
FirstFaultsAreExact = (schema : Schema) (s : StatementTree) → IsSchema schema
    → (first_fault schema s ≡ None) ↔ IsAcceptedOver (schema_scope schema) (query_alike s.query)
