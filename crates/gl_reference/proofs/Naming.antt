-- Sources by name, the parameters first.
use Rattle.std.proofs.Common.{◌≡◌, ℕ, List, [], ◌∷◌, ◌++◌, map, refl, sym, ap}
use Rattle.std.specs.Prelude.{Option, bytes_eq, find, option_map, unwrap_or}
use Rattle.gl_bits.proofs.Bools.{by_cases, bytes_same}
use Rattle.gl_schema.specs.declared.schema.Column.{Column}
use Rattle.gl_schema.specs.declared.schema.Stream.{Stream}
use Rattle.gl_query.specs.Shapes.{QueryShape}
use Rattle.gl_query.specs.Shapes as shape
use Rattle.gl_query.specs.Values.{column_kind}
use Rattle.gl_query.specs.Columns.{agg_column, but_key, colon, columns_of, frame_column, marked, parameter_stream, parameters_in, picked_columns, source_columns, variable}
use Rattle.gl_query.specs.Results.{Env, Source, streams_of}

-- what a source with a name says of its columns
abbrev pub columns_told : Option Source → List Column
columns_told o = unwrap_or (option_map (λ (s : Source). s.stream.columns) o) []

pub columns_said : (name : List ℕ) (env : Env) → source_columns (streams_of env) name ≡ columns_told (find (λ (s : Source). bytes_eq name s.stream.name) env)
columns_said name [] = refl
columns_said name (s ∷ env) = by_cases (bytes_eq name s.stream.name) (λ e. rw e refl) (λ e. rw e (columns_said name env))

-- the columns of a query go by those of its sources' names
columns_alike : (q : QueryShape) (ss zs : List Stream) → ((name : List ℕ) → source_columns ss name ≡ source_columns zs name) → columns_of ss q ≡ columns_of zs q
columns_alike (shape.Read name) ss zs h = h name
columns_alike (shape.Rows pick filter source) ss zs h =
    let own = columns_alike source ss zs h in
    (λ i. picked_columns (own i) (own i ++ map marked (h colon i)) pick)
columns_alike (shape.Total aggs source) ss zs h =
    let own = columns_alike source ss zs h in
    (λ i. map (agg_column (own i ++ map marked (h colon i))) aggs)
columns_alike (shape.Frames items filter slots source) ss zs h =
    let own = columns_alike source ss zs h in
    (λ i. map (frame_column (own i ++ map marked (h colon i))) items)
columns_alike (shape.Each measure var source size advance body) ss zs h =
    let own = columns_alike source ss zs h in
    (λ i. columns_of (parameter_stream (h colon i) ∷ variable var (own i)) body)
columns_alike (shape.PerGroup var source key groups body) ss zs h =
    let own = columns_alike source ss zs h in
    (λ i. record { name = key; kind = column_kind (own i) key } ∷ columns_of (parameter_stream (h colon i) ∷ variable var (own i)) body)
columns_alike (shape.Partition var source key groups size advance body) ss zs h =
    let own = columns_alike source ss zs h in
    (λ i. record { name = key; kind = column_kind (own i) key } ∷ columns_of (parameter_stream (h colon i) ∷ variable var (own i)) body)
columns_alike (shape.Union l r) ss zs h = columns_alike l ss zs h
columns_alike (shape.ByArrival l r) ss zs h = columns_alike l ss zs h
columns_alike (shape.AsOf l r slots) ss zs h =
    (λ i. columns_alike l ss zs h i ++ but_key slots.key (columns_alike r ss zs h i))
columns_alike (shape.Concat l r) ss zs h = (λ i. columns_alike l ss zs h i ++ columns_alike r ss zs h i)

first_again : (ss : List Stream) (name : List ℕ) → source_columns (parameter_stream (parameters_in ss) ∷ ss) name ≡ source_columns ss name
first_again ss name = by_cases (bytes_eq name colon)
    (λ e. rw e (sym (ap (source_columns ss) (bytes_same name colon e))))
    (λ e. rw e refl)

-- the parameters in front once more change nothing
pub parameters_first : (ss : List Stream) (q : QueryShape) → columns_of (parameter_stream (parameters_in ss) ∷ ss) q ≡ columns_of ss q
parameters_first ss q = columns_alike q (parameter_stream (parameters_in ss) ∷ ss) ss (first_again ss)
