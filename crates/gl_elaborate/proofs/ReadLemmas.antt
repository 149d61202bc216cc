-- The leaves of a query's plan: their shapes, that they fit, and what they give.
use Rattle.std.proofs.Common.{◌≡◌, ◌≢◌, ℕ, ◌<◌, Bool, true, false, List, [], ◌∷◌, length, slice_index, map, refl, sym, ap, subst, ◌∙◌}
use Rattle.std.specs.List.{AllByRecursion}
use Rattle.std.specs.Prelude.{bytes_eq}
use Rattle.std.proofs.lemmas.List.Elements.{All-nil, All-from_recursion}
use Rattle.gl_values.specs.Kinds.{IsKind}
use Rattle.gl_values.specs.Results.{Row}
use Rattle.gl_values.specs.declared.kind.Kind.{Kind}
use Rattle.gl_bits.proofs.AllLists.{all_append, all_mapped}
use Rattle.gl_bits.proofs.Bools.{by_cases}
use Rattle.gl_schema.specs.declared.schema.Column.{Column as NamedColumn}
use Rattle.gl_schema.specs.declared.schema.Stream.{Stream}
use Rattle.gl_schema.specs.Schemas.{IsRowOf, kinds_of, has_stream}
use Rattle.gl_query.specs.Shapes.{QueryShape}
use Rattle.gl_query.specs.Shapes as shape
use Rattle.gl_query.specs.Columns.{colon, inside, marked, parameters_in, source_columns, variable}
use Rattle.gl_query.specs.Results.{ArrivesIn, Env, IsResultIn, only, placed_rows_of, rows_of, streams_of, ticks_in, times_in, words_in}
use Rattle.gl_query.specs.Accepted.{can_read}
use Rattle.gl_query.specs.Laws.{AreKinds, HoldsIn, IsLongAs}
use Rattle.gl_query.proofs.Real.{AreReal, IsScope, body_is}
use Rattle.gl_algebra.specs.declared.node.PlanNode.{PlanNode}
use Rattle.gl_algebra.specs.declared.node.PlanNode.TheVariants as node
use Rattle.gl_algebra.specs.Shapes.{Shape, unsteady, shape_from}
use Rattle.gl_arrival.specs.Places.{Placed, at_places, at_positions}
use Rattle.gl_algebra.specs.Results.{Arriving, Inputs, Meaning, arriving_from, given, meaning_from, times_with}
use Rattle.gl_elaborate.specs.Fitting.{FitsNext}
use Rattle.gl_elaborate.specs.Right.{pace_at, leaves_of}
use Rattle.gl_elaborate.proofs.ApartLemmas.{AreWords}
use Rattle.gl_elaborate.proofs.LongLemmas.{AreLong}
use Rattle.gl_elaborate.proofs.PastLemmas.{among_streams, no_colon, past_parameters}

-- a leaf of a plan whose columns have these kinds
abbrev pub IsLeafOf : PlanNode → List Kind → Type 0
IsLeafOf (node.Stream number own) kinds = own ≡ kinds
IsLeafOf (node.Body own) kinds = own ≡ kinds
IsLeafOf (node.Compute child ops) kinds = ⊥
IsLeafOf (node.Select child column) kinds = ⊥
IsLeafOf (node.Project child items) kinds = ⊥
IsLeafOf (node.Frames child by items) kinds = ⊥
IsLeafOf (node.Aggregate child aggs) kinds = ⊥
IsLeafOf (node.Union left right) kinds = ⊥
IsLeafOf (node.Merge left right) kinds = ⊥
IsLeafOf (node.Beside left right) kinds = ⊥
IsLeafOf (node.Window source body size advance) kinds = ⊥
IsLeafOf (node.TimeWindow source body size advance) kinds = ⊥
IsLeafOf (node.Group source body key groups) kinds = ⊥
IsLeafOf (node.Partition source body key groups size advance) kinds = ⊥

-- the rows that a leaf gives
abbrev pub leaf_rows : PlanNode → Inputs → List Row
leaf_rows (node.Stream number kinds) inputs = inputs.streams number
leaf_rows (node.Body kinds) inputs = inputs.body
leaf_rows (node.Compute child ops) inputs = []
leaf_rows (node.Select child column) inputs = []
leaf_rows (node.Project child items) inputs = []
leaf_rows (node.Frames child by items) inputs = []
leaf_rows (node.Aggregate child aggs) inputs = []
leaf_rows (node.Union left right) inputs = []
leaf_rows (node.Merge left right) inputs = []
leaf_rows (node.Beside left right) inputs = []
leaf_rows (node.Window source body size advance) inputs = []
leaf_rows (node.TimeWindow source body size advance) inputs = []
leaf_rows (node.Group source body key groups) inputs = []
leaf_rows (node.Partition source body key groups size advance) inputs = []

-- the same rows, each at its place
abbrev pub leaf_placed : PlanNode → Inputs → List (Placed Row)
leaf_placed (node.Stream number kinds) inputs = at_places (inputs.streams number) (inputs.places number)
leaf_placed (node.Body kinds) inputs = at_places inputs.body inputs.body_places
leaf_placed (node.Compute child ops) inputs = []
leaf_placed (node.Select child column) inputs = []
leaf_placed (node.Project child items) inputs = []
leaf_placed (node.Frames child by items) inputs = []
leaf_placed (node.Aggregate child aggs) inputs = []
leaf_placed (node.Union left right) inputs = []
leaf_placed (node.Merge left right) inputs = []
leaf_placed (node.Beside left right) inputs = []
leaf_placed (node.Window source body size advance) inputs = []
leaf_placed (node.TimeWindow source body size advance) inputs = []
leaf_placed (node.Group source body key groups) inputs = []
leaf_placed (node.Partition source body key groups size advance) inputs = []

-- a stream's node
abbrev pub IsStreamNode : PlanNode → Type 0
IsStreamNode n = (number : ℕ) × (kinds : List Kind) × (n ≡ node.Stream number kinds)

-- the leaves of sources by their names
pub record IsReader (read : List ℕ → PlanNode) (sources : List Stream) (timed : Bool) : Type 0 where
  pub scope : IsScope (record { sources = sources; timed = timed })
  pub leaf : (name : List ℕ) → can_read sources name ≡ true → IsLeafOf (read name) (kinds_of (source_columns sources name))
  pub steady : (name : List ℕ) → pace_at (read name) ≢ unsteady
  pub streams : timed ≡ true → (name : List ℕ) → IsStreamNode (read name)

-- what the leaves of sources give is what an environment has
pub record Sees (read : List ℕ → PlanNode) (sources : List Stream) (timed : Bool) (env : Env) (inputs : Inputs) : Type 0 where
  pub streams : streams_of env ≡ sources
  pub are_long : HoldsIn IsLongAs env
  pub reads : (name : List ℕ) → can_read sources name ≡ true → leaf_rows (read name) inputs ≡ rows_of env name
  pub places : (name : List ℕ) → can_read sources name ≡ true → leaf_placed (read name) inputs ≡ placed_rows_of env name
  pub times : timed ≡ true → (name : List ℕ) → can_read sources name ≡ true
      → times_with (pace_at (read name)) inputs ≡ times_in env (shape.Read name)
  pub ticks : timed ≡ true → (name : List ℕ) → can_read sources name ≡ true → inputs.ticks ≡ ticks_in env (shape.Read name)
  pub sets : (k : ℕ) → inputs.sets k ≡ slice_index (words_in env) k
  pub fit : IsRowOf (parameters_in sources) (words_in env)

-- the results of a query over what its leaves give
abbrev pub means_for : (List ℕ → PlanNode) → List Stream → Bool → QueryShape → Meaning
means_for read sources timed q inputs out spill = (env : Env) → Sees read sources timed env inputs → IsResultIn q env out spill

-- and those with places
abbrev pub arrives_for : (List ℕ → PlanNode) → List Stream → Bool → QueryShape → Arriving
arrives_for read sources timed q inputs out spill = (env : Env) → Sees read sources timed env inputs → ArrivesIn q env out spill

-- ---- one leaf

pub all-kinds : (columns : List NamedColumn) → AreKinds columns → AllByRecursion IsKind (kinds_of columns)
all-kinds columns h = all_mapped IsKind (λ (c : NamedColumn). c.kind) columns h

pub read-shape : (n : PlanNode) (kinds : List Kind) (s : ℕ → Shape) → IsLeafOf n kinds
    → shape_from s n ≡ record { kinds = kinds; closing = false; pace = pace_at n; arrives = true; leaves = n ∷ [] }
read-shape (node.Stream k own) kinds s h = λ i. record { kinds = h i; closing = false; pace = pace_at (node.Stream k own); arrives = true; leaves = node.Stream k own ∷ [] }
read-shape (node.Body own) kinds s h = λ i. record { kinds = h i; closing = false; pace = pace_at (node.Body own); arrives = true; leaves = node.Body own ∷ [] }
read-shape (node.Compute child ops) kinds s h = absurd h
read-shape (node.Select child column) kinds s h = absurd h
read-shape (node.Project child items) kinds s h = absurd h
read-shape (node.Frames child by items) kinds s h = absurd h
read-shape (node.Aggregate child aggs) kinds s h = absurd h
read-shape (node.Union left right) kinds s h = absurd h
read-shape (node.Merge left right) kinds s h = absurd h
read-shape (node.Beside left right) kinds s h = absurd h
read-shape (node.Window source body size advance) kinds s h = absurd h
read-shape (node.TimeWindow source body size advance) kinds s h = absurd h
read-shape (node.Group source body key groups) kinds s h = absurd h
read-shape (node.Partition source body key groups size advance) kinds s h = absurd h

pub read-fits : (n : PlanNode) (kinds : List Kind) (nodes : List PlanNode) → IsLeafOf n kinds → AllByRecursion IsKind kinds → FitsNext nodes n
read-fits (node.Stream k own) kinds nodes h a = record {
  before = All-nil (λ child. child < length nodes);
  suits = All-from_recursion IsKind own (subst (AllByRecursion IsKind) (sym h) a);
  timed = tt;
}
read-fits (node.Body own) kinds nodes h a = record {
  before = All-nil (λ child. child < length nodes);
  suits = All-from_recursion IsKind own (subst (AllByRecursion IsKind) (sym h) a);
  timed = tt;
}
read-fits (node.Compute child ops) kinds nodes h a = absurd h
read-fits (node.Select child column) kinds nodes h a = absurd h
read-fits (node.Project child items) kinds nodes h a = absurd h
read-fits (node.Frames child by items) kinds nodes h a = absurd h
read-fits (node.Aggregate child aggs) kinds nodes h a = absurd h
read-fits (node.Union left right) kinds nodes h a = absurd h
read-fits (node.Merge left right) kinds nodes h a = absurd h
read-fits (node.Beside left right) kinds nodes h a = absurd h
read-fits (node.Window source body size advance) kinds nodes h a = absurd h
read-fits (node.TimeWindow source body size advance) kinds nodes h a = absurd h
read-fits (node.Group source body key groups) kinds nodes h a = absurd h
read-fits (node.Partition source body key groups size advance) kinds nodes h a = absurd h

pub read-means : (n : PlanNode) (kinds : List Kind) (s : ℕ → Shape) (v : ℕ → Arriving) (m : ℕ → Meaning) (inputs : Inputs) (out : List Row) (spill : Bool) → IsLeafOf n kinds
    → meaning_from s v m n inputs out spill → (out ≡ leaf_rows n inputs) × (spill ≡ false)
read-means (node.Stream k own) kinds s v m inputs out spill h r = (r.rows, r.kept)
read-means (node.Body own) kinds s v m inputs out spill h r = (r.rows, r.kept)
read-means (node.Compute child ops) kinds s v m inputs out spill h r = absurd h
read-means (node.Select child column) kinds s v m inputs out spill h r = absurd h
read-means (node.Project child items) kinds s v m inputs out spill h r = absurd h
read-means (node.Frames child by items) kinds s v m inputs out spill h r = absurd h
read-means (node.Aggregate child aggs) kinds s v m inputs out spill h r = absurd h
read-means (node.Union left right) kinds s v m inputs out spill h r = absurd h
read-means (node.Merge left right) kinds s v m inputs out spill h r = absurd h
read-means (node.Beside left right) kinds s v m inputs out spill h r = absurd h
read-means (node.Window source body size advance) kinds s v m inputs out spill h r = absurd h
read-means (node.TimeWindow source body size advance) kinds s v m inputs out spill h r = absurd h
read-means (node.Group source body key groups) kinds s v m inputs out spill h r = absurd h
read-means (node.Partition source body key groups size advance) kinds s v m inputs out spill h r = absurd h

pub read-arrives : (n : PlanNode) (kinds : List Kind) (s : ℕ → Shape) (v : ℕ → Arriving) (inputs : Inputs) (out : List (Placed Row)) (spill : Bool) → IsLeafOf n kinds
    → arriving_from s v n inputs out spill → (out ≡ leaf_placed n inputs) × (spill ≡ false)
read-arrives (node.Stream k own) kinds s v inputs out spill h r = (r.rows, r.kept)
read-arrives (node.Body own) kinds s v inputs out spill h r = (r.rows, r.kept)
read-arrives (node.Compute child ops) kinds s v inputs out spill h r = absurd h
read-arrives (node.Select child column) kinds s v inputs out spill h r = absurd h
read-arrives (node.Project child items) kinds s v inputs out spill h r = absurd h
read-arrives (node.Frames child by items) kinds s v inputs out spill h r = absurd h
read-arrives (node.Aggregate child aggs) kinds s v inputs out spill h r = absurd h
read-arrives (node.Union left right) kinds s v inputs out spill h r = absurd h
read-arrives (node.Merge left right) kinds s v inputs out spill h r = absurd h
read-arrives (node.Beside left right) kinds s v inputs out spill h r = absurd h
read-arrives (node.Window source body size advance) kinds s v inputs out spill h r = absurd h
read-arrives (node.TimeWindow source body size advance) kinds s v inputs out spill h r = absurd h
read-arrives (node.Group source body key groups) kinds s v inputs out spill h r = absurd h
read-arrives (node.Partition source body key groups size advance) kinds s v inputs out spill h r = absurd h

lost : (var : List ℕ) (columns : List NamedColumn) (name : List ℕ) → bytes_eq name var ≡ false → has_stream (variable var columns) name ≡ true → ⊥
unfolding has_stream
lost var columns name e has = let both = rw e at has in cc

own-leaf : (var : List ℕ) (columns : List NamedColumn) (name : List ℕ) → has_stream (variable var columns) name ≡ true
    → kinds_of columns ≡ kinds_of (source_columns (variable var columns) name)
own-leaf var columns name has = by_cases (bytes_eq name var) (λ e. rw e refl) (λ e. absurd (lost var columns name e has))

pub body-reader : (sources : List Stream) (timed : Bool) → IsScope (record { sources = sources; timed = timed }) → (var : List ℕ) (columns : List NamedColumn)
    → AreReal columns → IsReader (λ name. node.Body (kinds_of columns)) (inside sources var columns) false
body-reader sources timed is var columns are = record {
  scope = body_is (record { sources = sources; timed = timed }) is var columns are.result are.kinds;
  leaf = λ name has.
      own-leaf var columns name (among_streams (parameters_in sources) (variable var columns) name has)
      ∙ ap kinds_of (sym (past_parameters (parameters_in sources) (variable var columns) name (no_colon (inside sources var columns) name has)));
  steady = λ name e. absurd (cc);
  streams = λ t name. absurd (cc);
}

own-rows : (env : Env) (var : List ℕ) (columns : List NamedColumn) (rows : List Row) (name : List ℕ) → bytes_eq name colon ≡ false
    → has_stream (variable var columns) name ≡ true → rows ≡ rows_of (only env var columns rows) name
own-rows env var columns rows name other has =
    by_cases (bytes_eq name var) (λ e. rw (other, e) refl) (λ e. absurd (lost var columns name e has))

own-placed : (env : Env) (var : List ℕ) (columns : List NamedColumn) (rows : List Row) (name : List ℕ) → bytes_eq name colon ≡ false
    → has_stream (variable var columns) name ≡ true → at_positions rows ≡ placed_rows_of (only env var columns rows) name
own-placed env var columns rows name other has =
    by_cases (bytes_eq name var) (λ e. rw (other, e) refl) (λ e. absurd (lost var columns name e has))

pub body-sees : (read : List ℕ → PlanNode) (sources : List Stream) (timed : Bool) (env : Env) (var : List ℕ) (columns : List NamedColumn) (inputs : Inputs)
    (rows : List Row) → Sees read sources timed env inputs → AreLong columns rows
    → Sees (λ name. node.Body (kinds_of columns)) (inside sources var columns) false (only env var columns rows) (given inputs rows)
body-sees read sources timed env var columns inputs rows sees long = record {
  streams = ap (λ (ss : List Stream). inside ss var columns) sees.streams;
  are_long = record {
    rows = λ name. by_cases (bytes_eq name colon) (λ e. rw e (sees.are_long.words, tt))
        (λ e. by_cases (bytes_eq name var) (λ f. rw (e, f) long) (λ f. rw (e, f) tt));
    words = sees.are_long.words;
  };
  reads = λ name has.
      own-rows env var columns rows name (no_colon (inside sources var columns) name has)
      (among_streams (parameters_in sources) (variable var columns) name has);
  places = λ name has.
      own-placed env var columns rows name (no_colon (inside sources var columns) name has)
      (among_streams (parameters_in sources) (variable var columns) name has);
  times = λ t name has. absurd (cc);
  ticks = λ t name has. absurd (cc);
  sets = sees.sets;
  fit = sees.fit;
}

-- the parameters keep their kinds under the names by which expressions read them
marked-fits : (parameters : List NamedColumn) (words : Row) → IsRowOf parameters words → IsRowOf (map marked parameters) words
marked-fits [] [] h = tt
marked-fits [] (n ∷ ns) h = absurd h
marked-fits (p ∷ ps) [] h = absurd h
marked-fits (p ∷ ps) (n ∷ ns) h = (h.0, marked-fits ps ns h.1)

pub sees-words : (read : List ℕ → PlanNode) (sources : List Stream) (timed : Bool) (env : Env) (inputs : Inputs) → Sees read sources timed env inputs
    → AreWords (map marked (parameters_in sources)) inputs.sets (words_in env)
sees-words read sources timed env inputs sees = record {
  fit = marked-fits (parameters_in sources) (words_in env) sees.fit;
  each = sees.sets;
}

pub body-leaves : (n : PlanNode) (q : QueryShape) → AllByRecursion (λ leaf. leaf ≡ n) (leaves_of (λ name. n) q)
body-leaves n (shape.Read name) = (refl, tt)
body-leaves n (shape.Rows pick condition source) = body-leaves n source
body-leaves n (shape.Total aggs source) = body-leaves n source
body-leaves n (shape.Frames items condition slots source) = body-leaves n source
body-leaves n (shape.Each measure var source size advance body) = body-leaves n source
body-leaves n (shape.PerGroup var source key groups body) = body-leaves n source
body-leaves n (shape.Partition var source key groups size advance body) = body-leaves n source
body-leaves n (shape.Union l r) = all_append (λ leaf. leaf ≡ n) (leaves_of (λ name. n) l) (leaves_of (λ name. n) r) (body-leaves n l) (body-leaves n r)
body-leaves n (shape.ByArrival l r) = all_append (λ leaf. leaf ≡ n) (leaves_of (λ name. n) l) (leaves_of (λ name. n) r) (body-leaves n l) (body-leaves n r)
body-leaves n (shape.AsOf l r slots) = all_append (λ leaf. leaf ≡ n) (leaves_of (λ name. n) r) (leaves_of (λ name. n) l) (body-leaves n r) (body-leaves n l)
body-leaves n (shape.Concat l r) = all_append (λ leaf. leaf ≡ n) (leaves_of (λ name. n) l) (leaves_of (λ name. n) r) (body-leaves n l) (body-leaves n r)
