-- Without a window of time, results go by the rows of the streams and their places.
use Rattle.std.proofs.Common.{◌≡◌, ℕ, ◌+◌, false, List, [], ◌∷◌, refl, ap, ◌∙◌, subst}
use Rattle.std.specs.Prelude.{bytes_eq, map, slice_index}
use Rattle.gl_values.specs.Lists.{IsInterleaving, groups, has_further, slices}
use Rattle.gl_values.specs.Partitions.{parts}
use Rattle.gl_values.specs.Results.{Row, Results, AreBeside, IsChanged, IsInput, IsOfBoth, IsOfGroup, IsOfParts}
use Rattle.gl_arrival.specs.Places.{at_places}
use Rattle.gl_arrival.specs.Changes.{kept_at, mapped_at}
use Rattle.gl_bits.proofs.Bools.{by_cases, neither_parts}
use Rattle.gl_schema.specs.declared.schema.Stream.{Stream}
use Rattle.gl_schema.specs.Beats.{Inputs}
use Rattle.gl_query.specs.declared.tree.Measure.TheVariants.{Tuples, Time}
use Rattle.gl_query.specs.Columns.{colon, columns_of, parameter_stream, parameters_in, reach_of}
use Rattle.gl_query.specs.Laws.{ResultsGoByRows}
use Rattle.gl_query.specs.Results.{Arrivals, ArrivesIn, Env, IsArrival, IsAsOf, IsByArrival, IsChangedInPlace, IsFramed, IsFramedInPlace, IsResultIn, IsWithoutPlaces, env_of, join_by, kept, numbered, picked, placed_rows_of, rows_of, streams_of, total_row, Reach, first_row, is_kept, parameter_source, variable_source, widened, words_in}
use Rattle.gl_query.specs.Shapes.{QueryShape, query_shape}
use Rattle.gl_query.specs.Shapes as shape
use Rattle.gl_query.specs.Values.{column_number}
use Rattle.gl_query.specs.Windows.{HasNoTime, has_time}

-- the same streams with the same rows, at the same places
record HaveRows (env other : Env) : Type 0 where
  pub streams : streams_of env ≡ streams_of other
  pub rows : (name : List ℕ) → rows_of env name ≡ rows_of other name
  pub placed : (name : List ℕ) → placed_rows_of env name ≡ placed_rows_of other name

-- the words of the parameters are the same
same_words : (env other : Env) → HaveRows env other → words_in env ≡ words_in other
same_words env other h = ap first_row (h.rows colon)

-- a step that goes by streams and words
same_step : {A : Type 1} (step : List Stream → Row → A → A) (env other : Env) → HaveRows env other → (r r' : A) → r ≡ r'
    → step (streams_of env) (words_in env) r ≡ step (streams_of other) (words_in other) r'
same_step step env other h r r' e =
    ap (λ (s : List Stream). step s (words_in env) r) h.streams ∙ ap (λ (w : Row). step (streams_of other) w r) (same_words env other h)
    ∙ ap (step (streams_of other) (words_in other)) e

-- what an expression sees, by streams and words
abbrev seen_by : List Stream → Row → QueryShape → Reach
seen_by s w source = record { columns = reach_of s (columns_of s source); words = w }

-- what a body sees, by streams and words
abbrev body_by : List Stream → Row → List ℕ → QueryShape → List Row → Env
body_by s w var source rows = parameter_source (parameters_in s) w ∷ variable_source var (columns_of s source) rows ∷ []

-- results with places look at no time
same_arrivals : (q : QueryShape) (env other : Env) → HaveRows env other → ArrivesIn q env ≡ ArrivesIn q other
same_arrivals (shape.Read name) env other h = ap IsArrival (h.placed name)
same_arrivals (shape.Rows pick filter source) env other h =
    let step : List Stream → Row → Arrivals → Arrivals =
    λ s w r. IsChangedInPlace r (λ xs. mapped_at (picked (seen_by s w source) pick) (kept_at (is_kept (seen_by s w source) filter) xs)) in
    same_step step env other h (ArrivesIn source env) (ArrivesIn source other) (same_arrivals source env other h)
same_arrivals (shape.Total aggs source) env other h = refl
same_arrivals (shape.Frames items filter slots source) env other h =
    let step : List Stream → Row → Arrivals → Arrivals = λ s w r. IsFramedInPlace (columns_of s source) (seen_by s w source) items filter slots r in
    same_step step env other h (ArrivesIn source env) (ArrivesIn source other) (same_arrivals source env other h)
same_arrivals (shape.Each measure var source size advance body) env other h = refl
same_arrivals (shape.PerGroup var source key n body) env other h = refl
same_arrivals (shape.Partition var source key n size advance body) env other h = refl
same_arrivals (shape.Union l r) env other h = refl
same_arrivals (shape.ByArrival l r) env other h =
    ap (λ (x : Arrivals). IsByArrival x (ArrivesIn r env)) (same_arrivals l env other h)
    ∙ ap (λ (x : Arrivals). IsByArrival (ArrivesIn l other) x) (same_arrivals r env other h)
same_arrivals (shape.AsOf l r slots) env other h =
    let step : List Stream → Arrivals → Arrivals → Arrivals = λ ss x y. IsAsOf (join_by (columns_of ss l) (columns_of ss r) slots) x y in
    ap (λ (ss : List Stream). step ss (ArrivesIn l env) (ArrivesIn r env)) h.streams
    ∙ ap (λ (x : Arrivals). step (streams_of other) x (ArrivesIn r env)) (same_arrivals l env other h)
    ∙ ap (λ (x : Arrivals). step (streams_of other) (ArrivesIn l other) x) (same_arrivals r env other h)
same_arrivals (shape.Concat l r) env other h = refl

same_results : (q : QueryShape) → HasNoTime q → (env other : Env) → HaveRows env other → IsResultIn q env ≡ IsResultIn q other
same_results (shape.Read name) t env other h = ap IsInput (h.rows name)
same_results (shape.Rows pick filter source) t env other h =
    let step : List Stream → Row → Results → Results =
    λ s w r. IsChanged r (λ rows. map (picked (seen_by s w source) pick) (kept (seen_by s w source) filter rows)) in
    same_step step env other h (IsResultIn source env) (IsResultIn source other) (same_results source t env other h)
same_results (shape.Total aggs source) t env other h =
    let step : List Stream → Row → Results → Results =
    λ s w r. IsChanged r (λ rows. total_row (seen_by s w source).columns aggs (widened w rows) ∷ []) in
    same_step step env other h (IsResultIn source env) (IsResultIn source other) (same_results source t env other h)
same_results (shape.Frames items filter slots source) t env other h =
    let step : List Stream → Row → Results → Results = λ s w r. IsFramed (columns_of s source) (seen_by s w source) items filter slots r in
    same_step step env other h (IsResultIn source env) (IsResultIn source other) (same_results source t env other h)
same_results (shape.Each Time var source size advance body) t env other h = absurd (cc)
same_results (shape.Each Tuples var source size advance body) t env other h =
    let apart = neither_parts (has_time source) (has_time body) t in
    let step : List Stream → Row → Results → Results =
    λ s w r. IsOfParts r (slices size advance) (λ rows. IsResultIn body (body_by s w var source rows)) (λ rows. false) in
    same_step step env other h (IsResultIn source env) (IsResultIn source other) (same_results source apart.0 env other h)
same_results (shape.PerGroup var source key n body) t env other h =
    let apart = neither_parts (has_time source) (has_time body) t in
    let step : List Stream → Row → Results → Results =
    λ s w r. IsOfParts r (groups n (λ (row : Row). slice_index row (column_number (columns_of s source) key)))
    (IsOfGroup (λ rows. IsResultIn body (body_by s w var source rows)))
    (has_further n (λ (row : Row). slice_index row (column_number (columns_of s source) key))) in
    same_step step env other h (IsResultIn source env) (IsResultIn source other) (same_results source apart.0 env other h)
same_results (shape.Partition var source key n size advance body) t env other h =
    let apart = neither_parts (has_time source) (has_time body) t in
    let step : List Stream → Row → Results → Results =
    λ s w r. IsOfParts r (parts n (λ (row : Row). slice_index row (column_number (columns_of s source) key)) size advance)
    (IsOfGroup (λ rows. IsResultIn body (body_by s w var source rows)))
    (has_further n (λ (row : Row). slice_index row (column_number (columns_of s source) key))) in
    same_step step env other h (IsResultIn source env) (IsResultIn source other) (same_results source apart.0 env other h)
same_results (shape.Union l r) t env other h =
    let apart = neither_parts (has_time l) (has_time r) t in
    ap (λ (x : Results). IsOfBoth x (IsResultIn r env) IsInterleaving) (same_results l apart.0 env other h)
    ∙ ap (λ (x : Results). IsOfBoth (IsResultIn l other) x IsInterleaving) (same_results r apart.1 env other h)
same_results (shape.ByArrival l r) t env other h = ap (λ (x : Arrivals). IsWithoutPlaces x) (same_arrivals (shape.ByArrival l r) env other h)
same_results (shape.AsOf l r slots) t env other h = ap (λ (x : Arrivals). IsWithoutPlaces x) (same_arrivals (shape.AsOf l r slots) env other h)
same_results (shape.Concat l r) t env other h =
    let apart = neither_parts (has_time l) (has_time r) t in
    ap (λ (x : Results). IsOfBoth x (IsResultIn r env) AreBeside) (same_results l apart.0 env other h)
    ∙ ap (λ (x : Results). IsOfBoth (IsResultIn l other) x AreBeside) (same_results r apart.1 env other h)

-- ---- inputs with the same rows

numbered_streams : (k : ℕ) (streams : List Stream) (inputs others : Inputs) → streams_of (numbered k streams inputs) ≡ streams_of (numbered k streams others)
numbered_streams k [] inputs others = refl
numbered_streams k (s ∷ streams) inputs others = ap (λ (l : List Stream). s ∷ l) (numbered_streams (k + 1) streams inputs others)

numbered_rows : (k : ℕ) (streams : List Stream) (inputs others : Inputs) → ((i : ℕ) → inputs.rows i ≡ others.rows i) → (name : List ℕ)
    → rows_of (numbered k streams inputs) name ≡ rows_of (numbered k streams others) name
numbered_rows k [] inputs others same name = refl
numbered_rows k (s ∷ streams) inputs others same name =
    by_cases (bytes_eq name s.name) (λ e. rw e (same k)) (λ e. rw e (numbered_rows (k + 1) streams inputs others same name))

numbered_placed : (k : ℕ) (streams : List Stream) (inputs others : Inputs) → ((i : ℕ) → inputs.rows i ≡ others.rows i)
    → ((i : ℕ) → inputs.places i ≡ others.places i) → (name : List ℕ)
    → placed_rows_of (numbered k streams inputs) name ≡ placed_rows_of (numbered k streams others) name
numbered_placed k [] inputs others same at name = refl
numbered_placed k (s ∷ streams) inputs others same at name =
    by_cases (bytes_eq name s.name)
    (λ e. rw e (ap (λ (l : List Row). at_places l (inputs.places k)) (same k) ∙ ap (at_places (others.rows k)) (at k)))
    (λ e. rw e (numbered_placed (k + 1) streams inputs others same at name))

pub go_by_rows : ResultsGoByRows
go_by_rows schema statement inputs others out spill timeless same at sets result =
    let alike : HaveRows (env_of schema inputs) (env_of schema others) = record {
      streams = ap (λ (l : List Stream). parameter_stream schema.parameters ∷ l) (numbered_streams 0 schema.streams inputs others);
      rows = λ name. by_cases (bytes_eq name colon) (λ e. rw e (ap (λ (w : Row). w ∷ []) sets))
          (λ e. rw e (numbered_rows 0 schema.streams inputs others same name));
      placed = λ name. by_cases (bytes_eq name colon) (λ e. rw e (ap (λ (w : Row). at_places (w ∷ []) (0 ∷ [])) sets))
          (λ e. rw e (numbered_placed 0 schema.streams inputs others same at name));
    } in
    subst (λ (r : Results). r out spill) (same_results (query_shape statement.query) timeless (env_of schema inputs) (env_of schema others) alike) result
