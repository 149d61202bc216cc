-- The plan of a statement.
use Rattle.std.proofs.Common.{◌≡◌, ℕ, suc, ◌+◌, true, false, List, [], ◌∷◌, Some, slice_get, refl, sym, ap, subst, ◌∙◌, arith}
use Rattle.std.specs.Prelude.{bytes_eq}
use Rattle.gl_values.specs.Kinds.{width_of}
use Rattle.gl_values.specs.Results.{Row}
use Rattle.std.proofs.Math.Numerals.{one-add}
use Rattle.gl_schema.specs.declared.schema.Column.{Column}
use Rattle.gl_schema.specs.declared.schema.Stream.{Stream}
use Rattle.gl_schema.specs.declared.schema.Schema.{Schema}
use Rattle.gl_schema.specs.Schemas.{IsRowOf, IsSchema, has_stream, kinds_of}
use Rattle.gl_query.specs.Shapes.{query_shape}
use Rattle.gl_query.specs.Shapes as shape
use Rattle.gl_query.specs.Columns.{colon, marked, parameter_stream, source_columns, sources_of}
use Rattle.gl_query.specs.Laws.{IsLongAs, ResultsAreLong}
use Rattle.gl_arrival.specs.Places.{at_places}
use Rattle.gl_query.specs.Results.{env_of, numbered, placed_rows_of, rows_of, streams_of, ticks_in, times_in}
use Rattle.gl_algebra.specs.declared.node.PlanNode.{PlanNode}
use Rattle.gl_algebra.specs.Fits.{IsPlan}
use Rattle.gl_algebra.specs.Known.{AreKnown}
use Rattle.gl_bits.proofs.AllLists.{map_map}
use Rattle.gl_bits.proofs.Bools.{by_cases}
use Rattle.gl_schema.specs.Beats as beats
use Rattle.gl_query.proofs.Real.{schema_is}
use Rattle.gl_elaborate.specs.Fitting.{PlacedFit}
use Rattle.gl_elaborate.specs.Laws.{AreInputsOf, IsRightAt, PlansAreRight, leaf_inputs, parameter_widths}
use Rattle.gl_elaborate.specs.Plans.{plan_behind, stream_node, stream_number}
use Rattle.gl_elaborate.proofs.KnownNodes.{placed-known}
use Rattle.gl_elaborate.proofs.LongLemmas.{AreLong}
use Rattle.gl_elaborate.proofs.PastLemmas.{among_streams, no_colon, past_parameters}
use Rattle.gl_elaborate.proofs.ReadLemmas.{IsReader, Sees}
use Rattle.gl_query.specs.declared.tree.Statement.{Statement}
use Rattle.gl_query.specs.Checked.{IsChecked}
use Rattle.gl_elaborate.proofs.PlacedLemmas.{IsOver}
use Rattle.gl_elaborate.proofs.QueryLemmas.{right}
use Rattle.gl_elaborate.proofs.FigureLemmas.{figures-right}
use Rattle.gl_elaborate.proofs.TickLemmas.{ticks-right}

pub schema-reader : (schema : Schema) → IsSchema schema → IsReader (stream_node schema.streams) (sources_of schema) true
schema-reader schema is = record {
  scope = schema_is schema is;
  leaf = λ name has.
      ap kinds_of (sym (past_parameters schema.parameters schema.streams name (no_colon (sources_of schema) name has)));
  steady = λ name e. absurd (cc);
  streams = λ t name. (stream_number schema.streams name, kinds_of (source_columns schema.streams name), refl);
}

numbered-streams : (k : ℕ) (streams : List Stream) (inputs : beats.Inputs) → streams_of (numbered k streams inputs) ≡ streams
numbered-streams k [] inputs = refl
numbered-streams k (s ∷ streams) inputs = ap (λ (l : List Stream). s ∷ l) (numbered-streams (k + 1) streams inputs)

numbered-rows : (k : ℕ) (streams : List Stream) (inputs : beats.Inputs) (name : List ℕ) → has_stream streams name ≡ true
    → inputs.rows (k + stream_number streams name) ≡ rows_of (numbered k streams inputs) name
unfolding has_stream
numbered-rows k [] inputs name has = absurd (cc)
numbered-rows k (s ∷ streams) inputs name has =
    by_cases (bytes_eq name s.name) (λ e. rw e (ap inputs.rows (let z : k + 0 ≡ k = omega arith in z)))
    (λ e.
    let rest = numbered-rows (k + 1) streams inputs name (rw e at has) in
    rw (e, one-add)
    (ap inputs.rows (let z : k + suc (stream_number streams name) ≡ k + 1 + stream_number streams name = omega arith in z) ∙ rest))

numbered-placed : (k : ℕ) (streams : List Stream) (inputs : beats.Inputs) (name : List ℕ) → has_stream streams name ≡ true
    → at_places (inputs.rows (k + stream_number streams name)) (inputs.places (k + stream_number streams name)) ≡ placed_rows_of (numbered k streams inputs) name
unfolding has_stream
numbered-placed k [] inputs name has = absurd (cc)
numbered-placed k (s ∷ streams) inputs name has =
    by_cases (bytes_eq name s.name) (λ e. rw e (ap (λ (i : ℕ). at_places (inputs.rows i) (inputs.places i)) (let z : k + 0 ≡ k = omega arith in z)))
    (λ e.
    let rest = numbered-placed (k + 1) streams inputs name (rw e at has) in
    rw (e, one-add)
    (ap (λ (i : ℕ). at_places (inputs.rows i) (inputs.places i)) (let z : k + suc (stream_number streams name) ≡ k + 1 + stream_number streams name = omega arith in z) ∙ rest))

numbered-times : (k : ℕ) (streams : List Stream) (inputs : beats.Inputs) (name : List ℕ) → has_stream streams name ≡ true
    → inputs.times (k + stream_number streams name) ≡ times_in (numbered k streams inputs) (shape.Read name)
unfolding has_stream
numbered-times k [] inputs name has = absurd (cc)
numbered-times k (s ∷ streams) inputs name has =
    by_cases (bytes_eq name s.name) (λ e. rw e (ap inputs.times (let z : k + 0 ≡ k = omega arith in z)))
    (λ e.
    let rest = numbered-times (k + 1) streams inputs name (rw e at has) in
    rw (e, one-add)
    (ap inputs.times (let z : k + suc (stream_number streams name) ≡ k + 1 + stream_number streams name = omega arith in z) ∙ rest))

numbered-ticks : (k : ℕ) (streams : List Stream) (inputs : beats.Inputs) (name : List ℕ) → has_stream streams name ≡ true
    → inputs.ticks ≡ ticks_in (numbered k streams inputs) (shape.Read name)
unfolding has_stream
numbered-ticks k [] inputs name has = absurd (cc)
numbered-ticks k (s ∷ streams) inputs name has =
    by_cases (bytes_eq name s.name) (λ e. rw e refl) (λ e. rw e (numbered-ticks (k + 1) streams inputs name (rw e at has)))

numbered-long : (k : ℕ) (streams : List Stream) (inputs : beats.Inputs) (name : List ℕ)
    → ((i : ℕ) (s : Stream) → slice_get streams i ≡ Some s → AreLong s.columns (inputs.rows (k + i)))
    → AreLong (source_columns streams name) (rows_of (numbered k streams inputs) name)
numbered-long k [] inputs name h = tt
numbered-long k (s ∷ streams) inputs name h =
    by_cases (bytes_eq name s.name)
    (λ e. rw e (subst (λ (i : ℕ). AreLong s.columns (inputs.rows i)) (let z : k + 0 ≡ k = omega arith in z) (h 0 s refl)))
    (λ e. rw e (numbered-long (k + 1) streams inputs name
    (λ i t is. subst (λ (j : ℕ). AreLong t.columns (inputs.rows j)) (let z : k + suc i ≡ k + 1 + i = omega arith in z) (h (suc i) t is))))

-- as many words as columns
row-long : (columns : List Column) (row : Row) → IsRowOf columns row → IsLongAs columns row
row-long [] [] h = refl
row-long [] (n ∷ ns) h = absurd h
row-long (c ∷ cs) [] h = absurd h
row-long (c ∷ cs) (n ∷ ns) h = ap suc (row-long cs ns h.1)

module _ (schema : Schema) (inputs : beats.Inputs) (body : List Row) (are : AreInputsOf schema inputs) where
  words-long : IsLongAs schema.parameters inputs.sets
  words-long = row-long schema.parameters inputs.sets are.words

  streams-long : (name : List ℕ) → AreLong (source_columns (streams_of (numbered 0 schema.streams inputs)) name) (rows_of (numbered 0 schema.streams inputs) name)
  streams-long name = subst (λ (s : List Stream). AreLong (source_columns s name) (rows_of (numbered 0 schema.streams inputs) name))
      (sym (numbered-streams 0 schema.streams inputs))
      (numbered-long 0 schema.streams inputs name
      (λ i s is. subst (λ (j : ℕ). AreLong s.columns (inputs.rows j)) (let z : i ≡ 0 + i = omega arith in z) (are.rows i s is)))

  number-zero : (name : List ℕ) → stream_number schema.streams name ≡ 0 + stream_number schema.streams name
  number-zero name = omega arith

  sees-rows : (name : List ℕ) → bytes_eq name colon ≡ false → has_stream schema.streams name ≡ true
      → inputs.rows (stream_number schema.streams name) ≡ rows_of (env_of schema inputs) name
  sees-rows name other has = rw other (ap inputs.rows (number-zero name) ∙ numbered-rows 0 schema.streams inputs name has)

  sees-placed : (name : List ℕ) → bytes_eq name colon ≡ false → has_stream schema.streams name ≡ true
      → at_places (inputs.rows (stream_number schema.streams name)) (inputs.places (stream_number schema.streams name)) ≡ placed_rows_of (env_of schema inputs) name
  sees-placed name other has =
      rw other (ap (λ (i : ℕ). at_places (inputs.rows i) (inputs.places i)) (number-zero name) ∙ numbered-placed 0 schema.streams inputs name has)

  sees-times : (name : List ℕ) → bytes_eq name colon ≡ false → has_stream schema.streams name ≡ true
      → inputs.times (stream_number schema.streams name) ≡ times_in (env_of schema inputs) (shape.Read name)
  sees-times name other has = rw other (ap inputs.times (number-zero name) ∙ numbered-times 0 schema.streams inputs name has)

  sees-ticks : (name : List ℕ) → bytes_eq name colon ≡ false → has_stream schema.streams name ≡ true
      → inputs.ticks ≡ ticks_in (env_of schema inputs) (shape.Read name)
  sees-ticks name other has = rw other (numbered-ticks 0 schema.streams inputs name has)

  schema-sees : Sees (stream_node schema.streams) (sources_of schema) true (env_of schema inputs) (leaf_inputs inputs body)
  schema-sees = record {
    streams = ap (λ (ss : List Stream). parameter_stream schema.parameters ∷ ss) (numbered-streams 0 schema.streams inputs);
    are_long = record {
      rows = λ name. by_cases (bytes_eq name colon) (λ e. rw e (words-long, tt)) (λ e. rw e (streams-long name));
      words = words-long;
    };
    reads = λ name has.
        sees-rows name (no_colon (sources_of schema) name has) (among_streams schema.parameters schema.streams name has);
    places = λ name has.
        sees-placed name (no_colon (sources_of schema) name has) (among_streams schema.parameters schema.streams name has);
    times = λ t name has.
        sees-times name (no_colon (sources_of schema) name has) (among_streams schema.parameters schema.streams name has);
    ticks = λ t name has.
        sees-ticks name (no_colon (sources_of schema) name has) (among_streams schema.parameters schema.streams name has);
    sets = λ k. refl;
    fit = are.words;
  }

pub empty : IsPlan []
empty = record { fits = λ number node is. absurd (cc); distinct = λ i j node is js. absurd (cc) }

-- a statement's plan behind a plan's nodes
pub record IsRightBehind (nodes : List PlanNode) (schema : Schema) (statement : Statement) : Type 0 where
  pub fit : PlacedFit (stream_node schema.streams) (sources_of schema) (query_shape statement.query) nodes
  pub over : IsOver nodes (plan_behind nodes schema statement)
  pub at : IsRightAt (plan_behind nodes schema statement).nodes schema statement (plan_behind nodes schema statement).root

pub right-behind : ResultsAreLong → (nodes : List PlanNode) (schema : Schema) (statement : Statement) → IsChecked schema statement → IsPlan nodes
    → IsRightBehind nodes schema statement
right-behind lengths nodes schema statement checked plan =
    let reader = schema-reader schema checked.of_schema in
    let done = right lengths (query_shape statement.query) (stream_node schema.streams) (sources_of schema) true nodes reader checked.accepted plan in
    record {
      fit = done.0;
      over = done.1.over;
      at = record {
        within = done.1.over.within;
        shape = done.1.is;
        figures = (figures-right lengths (query_shape statement.query) (stream_node schema.streams) (sources_of schema) true nodes reader checked.accepted plan).is;
        ticks = (ticks-right lengths schema.streams (sources_of schema) reader (query_shape statement.query) nodes checked.accepted plan).is;
        results = λ inputs body out spill rows r. done.1.means (leaf_inputs inputs body) out spill r (env_of schema inputs) (schema-sees schema inputs body rows);
      };
    }

-- the nodes of a statement behind a plan's name no parameter but the schema's
pub known-behind : (nodes : List PlanNode) (schema : Schema) (statement : Statement) → IsChecked schema statement → AreKnown (parameter_widths schema) nodes
    → AreKnown (parameter_widths schema) (plan_behind nodes schema statement).nodes
known-behind nodes schema statement checked known =
    placed-known (parameter_widths schema) (query_shape statement.query) (stream_node schema.streams) (sources_of schema) true nodes
    (schema-reader schema checked.of_schema) (map_map (λ (c : Column). width_of c.kind) marked schema.parameters) checked.accepted known

pub plans-right : ResultsAreLong → PlansAreRight
plans-right lengths schema statement checked =
    let done = right-behind lengths [] schema statement checked empty in
    record {
      fit = done.fit;
      plan = done.over.plan;
      known = known-behind [] schema statement checked (record { each = λ number node is. absurd (cc) });
      within = done.at.within;
      shape = done.at.shape;
      figures = done.at.figures;
      results = done.at.results;
    }
