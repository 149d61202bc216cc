-- The names of a result's columns are names.
use Rattle.std.proofs.Common.{ℕ, zero, suc, Bool, true, false, List, [], ◌∷◌, ◌++◌, map, Some}
use Rattle.std.specs.Prelude.{bytes_eq, find, option_map, remove, unwrap_or, if◌then◌else◌}
use Rattle.std.specs.List.{AllByRecursion}
use Rattle.gl_schema.specs.declared.schema.Column.{Column}
use Rattle.gl_schema.specs.declared.schema.Stream.{Stream}
use Rattle.gl_schema.specs.declared.schema.Schema.{Schema}
use Rattle.gl_schema.specs.Names.{IsName}
use Rattle.gl_schema.specs.Schemas.{IsColumn, IsSchema, IsStream, column_names}
use Rattle.gl_query.specs.Columns.{agg_column, but_key, columns_of, frame_column, item_column, picked_columns, source_columns, colon, inside, reach_of, sources_of}
use Rattle.gl_query.specs.Names.{HasNames, QueryHasNames}
use Rattle.gl_query.specs.Values.{column_number}
use Rattle.gl_query.specs.Parts.{InAggItem, InFrameItem, InItem, InPick}
use Rattle.gl_query.specs.Shapes.{AggItemShape, FrameItemShape, ItemShape, PickShape, QueryShape}
use Rattle.gl_query.specs.Shapes as shape

abbrev AreNamed : List Column → Type 0
AreNamed columns = AllByRecursion (λ (c : Column). IsName c.name) columns

abbrev SourcesAreNamed : List Stream → Type 0
SourcesAreNamed sources = AllByRecursion (λ (s : Stream). AreNamed s.columns) sources

columns_are : (cs : List Column) → AllByRecursion IsColumn cs → AreNamed cs
columns_are [] h = tt
columns_are (c ∷ cs) h = (h.0.name, columns_are cs h.1)

streams_are : (ss : List Stream) → AllByRecursion IsStream ss → SourcesAreNamed ss
streams_are [] h = tt
streams_are (s ∷ ss) h = (columns_are s.columns h.0.columns, streams_are ss h.1)

source_named : (ss : List Stream) (name : List ℕ) → SourcesAreNamed ss → AreNamed (source_columns ss name)
source_named [] name h = tt
source_named (s ∷ ss) name h = by (bytes_eq name s.name) h.0 (source_named ss name h.1)
  where
    by : (b : Bool) → AreNamed s.columns → AreNamed (source_columns ss name)
        → AreNamed (unwrap_or (option_map (λ (x : Stream). x.columns) (if b then Some s else find (λ (x : Stream). bytes_eq name x.name) ss)) [])
    by true here later = here
    by false here later = later

items_named : (columns : List Column) (items : List ItemShape) → AllByRecursion (InItem HasNames IsName) items → AreNamed (map (item_column columns) items)
items_named columns [] h = tt
items_named columns (i ∷ items) h = (h.0.1, items_named columns items h.1)

aggs_named : (columns : List Column) (items : List AggItemShape) → AllByRecursion (InAggItem HasNames IsName) items → AreNamed (map (agg_column columns) items)
aggs_named columns [] h = tt
aggs_named columns (i ∷ items) h = (h.0.1, aggs_named columns items h.1)

frames_named : (columns : List Column) (items : List FrameItemShape) → AllByRecursion (InFrameItem HasNames IsName) items → AreNamed (map (frame_column columns) items)
frames_named columns [] h = tt
frames_named columns (i ∷ items) h = (h.0.1, frames_named columns items h.1)

picked_named : (columns reach : List Column) (pick : PickShape) → AreNamed columns → InPick HasNames IsName pick → AreNamed (picked_columns columns reach pick)
picked_named columns reach shape.All h p = h
picked_named columns reach (shape.Items items) h p = items_named reach items p

join_named : (xs ys : List Column) → AreNamed xs → AreNamed ys → AreNamed (xs ++ ys)
join_named [] ys h k = k
join_named (x ∷ xs) ys h k = (h.0, join_named xs ys h.1 k)

-- all columns but one
but_named : (cs : List Column) (i : ℕ) → AreNamed cs → AreNamed (remove cs i)
but_named [] zero h = tt
but_named [] (suc i) h = tt
but_named (c ∷ cs) zero h = h.1
but_named (c ∷ cs) (suc i) h = (h.0, but_named cs i h.1)

-- what a body sees has names where what is around it has
inside_named : (sources : List Stream) (var : List ℕ) (columns : List Column) → SourcesAreNamed sources → AreNamed columns → SourcesAreNamed (inside sources var columns)
inside_named sources var columns h k = (source_named sources colon h, (k, tt))

query_named : (q : QueryShape) (sources : List Stream) → SourcesAreNamed sources → QueryHasNames q → AreNamed (columns_of sources q)
query_named (shape.Read name) sources h q = source_named sources name h
query_named (shape.Rows pick filter source) sources h q =
    picked_named (columns_of sources source) (reach_of sources (columns_of sources source)) pick (query_named source sources h q.0) q.1
query_named (shape.Total aggs source) sources h q = aggs_named (reach_of sources (columns_of sources source)) aggs q.1
query_named (shape.Frames items filter slots source) sources h q = frames_named (reach_of sources (columns_of sources source)) items q.1
query_named (shape.Each measure var source size advance body) sources h q =
    query_named body (inside sources var (columns_of sources source)) (inside_named sources var (columns_of sources source) h (query_named source sources h q.0)) q.1
query_named (shape.PerGroup var source key groups body) sources h q =
    (q.3, query_named body (inside sources var (columns_of sources source)) (inside_named sources var (columns_of sources source) h (query_named source sources h q.0)) q.1)
query_named (shape.Partition var source key groups size advance body) sources h q =
    (q.3, query_named body (inside sources var (columns_of sources source)) (inside_named sources var (columns_of sources source) h (query_named source sources h q.0)) q.1)
query_named (shape.Union l r) sources h q = query_named l sources h q.0
query_named (shape.ByArrival l r) sources h q = query_named l sources h q.0
query_named (shape.AsOf l r slots) sources h q =
    let rights = columns_of sources r in
    join_named (columns_of sources l) (but_key slots.key rights) (query_named l sources h q.0) (but_named rights (column_number rights slots.key) (query_named r sources h q.1))
query_named (shape.Concat l r) sources h q =
    join_named (columns_of sources l) (columns_of sources r) (query_named l sources h q.0) (query_named r sources h q.1)

names_of : (cs : List Column) → AreNamed cs → AllByRecursion IsName (column_names cs)
names_of [] h = tt
names_of (c ∷ cs) h = (h.0, names_of cs h.1)

-- over a schema the columns of a query whose names are names have names
pub columns_named : (schema : Schema) (q : QueryShape) → IsSchema schema → QueryHasNames q → AllByRecursion IsName (column_names (columns_of (sources_of schema) q))
columns_named schema q s h =
    names_of (columns_of (sources_of schema) q) (query_named q (sources_of schema) (columns_are schema.parameters s.declared.each, streams_are schema.streams s.streams) h)
