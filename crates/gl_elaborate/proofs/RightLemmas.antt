-- What is shown of each query apart: paces, parts, windows of time, and what selects and unions by arrival make.
use Rattle.std.proofs.Common.{◌≡◌, ◌≢◌, ℕ, Bool, true, List, [], ◌∷◌, Option, Some, None, map, refl, sym, ap, subst, ◌∙◌}
use Rattle.std.specs.List.{AllByRecursion}
use Rattle.std.specs.Prelude.{IsSome}
use Rattle.gl_values.specs.Results.{Row, Results, AreJoined}
use Rattle.gl_schema.specs.declared.schema.Column.{Column as NamedColumn}
use Rattle.gl_schema.specs.declared.schema.Stream.{Stream}
use Rattle.gl_schema.specs.Schemas.{kinds_of}
use Rattle.gl_frames.specs.Frames.{framed}
use Rattle.gl_arrival.specs.Places as arrival
use Rattle.gl_arrival.specs.Changes.{framed_at, kept_at, mapped_at}
use Rattle.gl_arrival.specs.Results.{IsByArrival}
use Rattle.gl_query.specs.declared.tree.Measure.{Measure}
use Rattle.gl_query.specs.declared.tree.Measure.TheVariants.{Tuples, Time}
use Rattle.gl_query.specs.Shapes.{ExprShape, FrameItemShape, PickShape, QueryShape, SlotsShape}
use Rattle.gl_query.specs.Shapes as shape
use Rattle.gl_query.specs.Columns.{columns_of, marked, parameters_in, reach_of, source_columns, pace_of, unfiltered}
use Rattle.gl_query.specs.Columns as query
use Rattle.gl_query.specs.Accepted.{IsAcceptedOver, can_measure}
use Rattle.gl_query.specs.Laws.{ResultsAreLong}
use Rattle.gl_query.specs.Results.{ArrivesIn, Env, IsAsOf, IsFramed, IsFramedInPlace, IsResultIn, join_by, kept, picked, ticks_in, times_in, Reach, is_kept, reached_row, words_in}
use Rattle.gl_query.specs.Windows.{parts_of}
use Rattle.gl_query.proofs.Arriving.{arrived}
use Rattle.gl_algebra.specs.declared.node.PlanNode.{PlanNode}
use Rattle.gl_algebra.specs.Added.{Placed, added}
use Rattle.gl_algebra.specs.Fits.{IsPlan, IsOverStream}
use Rattle.gl_algebra.specs.Results.{Arriving, Inputs, times_with}
use Rattle.gl_algebra.specs.Shapes.{unsteady, pace_by_key}
use Rattle.gl_elaborate.specs.Plans.{key_over, placed, window_node}
use Rattle.gl_elaborate.specs.Right.{plan_pace}
use Rattle.gl_elaborate.proofs.JoinStands.{IsJoinedHere}
use Rattle.gl_elaborate.proofs.KeyedLemmas.{AreFramed, AreFramedHere}
use Rattle.gl_elaborate.proofs.LongLemmas.{results-long}
use Rattle.gl_elaborate.proofs.PlacedLemmas.{IsOver, is_added}
use Rattle.gl_elaborate.proofs.ReadLemmas.{IsReader, Sees, arrives_for, means_for, all-kinds, read-fits, sees-words}
use Rattle.gl_elaborate.proofs.RowsLemmas.{IsPickedInPlace, pace_under}

-- ---- results in parts

pub joined-means : {A : Type 0} (P : A → Type 0) (F G : A → Results) (each : (x : A) (out : List Row) (spill : Bool) → P x → F x out spill → G x out spill)
    (parts : List A) (out : List Row) (spill : Bool) → AllByRecursion P parts → AreJoined F parts out spill → AreJoined G parts out spill
joined-means P F G each [] out spill h r = r
joined-means P F G each (x ∷ parts) out spill h (first, later, p, q, one, rest, e, s) =
    (first, later, p, q, each x first p h.0 one, joined-means P F G each parts later q h.1 rest, e, s)

-- ---- paces

pub rows-pace : (read : List ℕ → PlanNode) (condition : Option ExprShape) (pace : Option query.Pace)
    → pace_under condition (plan_pace read pace) ≡ plan_pace read (unfiltered condition pace)
rows-pace read None pace = refl
rows-pace read (Some e) pace = refl

pub frames-pace : (read : List ℕ → PlanNode) (columns : List NamedColumn) (slots : Option SlotsShape) (condition : Option ExprShape) (pace : Option query.Pace)
    → pace_by_key (key_over columns slots) (pace_under condition (plan_pace read pace)) ≡ plan_pace read (unfiltered condition (unfiltered slots pace))
frames-pace read columns None None pace = refl
frames-pace read columns None (Some e) pace = refl
frames-pace read columns (Some s) None pace = refl
frames-pace read columns (Some s) (Some e) pace = refl

pub some-pace : (read : List ℕ → PlanNode) (sources : List Stream) (timed : Bool) → IsReader read sources timed → (pace : Option query.Pace) → IsSome pace
    → plan_pace read pace ≢ unsteady
some-pace read sources timed reader None some e = cc
some-pace read sources timed reader (Some query.Once) some e = absurd (cc)
some-pace read sources timed reader (Some (query.Step name)) some e = reader.steady name e

-- a window of time is over a stream's node
pub over-stream : (measure : Measure) (source : QueryShape) (read : List ℕ → PlanNode) (sources : List Stream) (timed : Bool) (nodes : List PlanNode) (at : Placed)
    (size advance : ℕ) → IsReader read sources timed → IsAcceptedOver (record { sources = sources; timed = timed }) source
    → can_measure measure (record { sources = sources; timed = timed }) source ≡ true → IsPlan nodes → IsOver (placed read sources source nodes).nodes at
    → IsOverStream at.nodes (window_node measure (placed read sources source nodes).root at.root size advance)
over-stream Tuples source read sources timed nodes at size advance reader a can plan over = tt
over-stream Time (shape.Read name) read sources timed nodes at size advance reader a can plan over =
    let fits = read-fits (read name) (kinds_of (source_columns sources name)) nodes (reader.leaf name a) (all-kinds (source_columns sources name) (reader.scope.kinds name)) in
    let new = is_added nodes (read name) plan fits in
    let stream = reader.streams can name in
    (stream.0, stream.1, over.kept (added nodes (read name)).root new.over.within ∙ new.there ∙ ap Some stream.2)
over-stream Time source read sources timed nodes at size advance reader a can plan over = absurd (cc)

-- its rows have the times that the plan sees
pub same-parts : (measure : Measure) (source : QueryShape) (read : List ℕ → PlanNode) (sources : List Stream) (timed : Bool) (env : Env) (inputs : Inputs)
    (size advance : ℕ) (rows : List Row) → IsAcceptedOver (record { sources = sources; timed = timed }) source
    → can_measure measure (record { sources = sources; timed = timed }) source ≡ true → Sees read sources timed env inputs
    → parts_of measure size advance (times_with (plan_pace read (pace_of source)) inputs) inputs.ticks rows
    ≡ parts_of measure size advance (times_in env source) (ticks_in env source) rows
same-parts Tuples source read sources timed env inputs size advance rows a can sees = refl
same-parts Time (shape.Read name) read sources timed env inputs size advance rows a can sees =
    (λ i. parts_of Time size advance (sees.times can name a i) (sees.ticks can name a i) rows)
same-parts Time source read sources timed env inputs size advance rows a can sees = absurd (cc)

-- what the parameters are called in expressions
abbrev pub behind_columns : List Stream → List NamedColumn
behind_columns sources = map marked (parameters_in sources)

-- what expressions over the rows of a query see where these are the sources
abbrev pub seen_over : Env → List Stream → QueryShape → Reach
seen_over env sources q = record { columns = reach_of sources (columns_of sources q); words = words_in env }

-- what frames make of a result of their source is a result of the query
pub framed-means : ResultsAreLong → (items : List FrameItemShape) (condition : Option ExprShape) (slots : Option SlotsShape) (source : QueryShape) (read : List ℕ → PlanNode)
    (sources : List Stream) (timed : Bool) → IsAcceptedOver (record { sources = sources; timed = timed }) source → (inputs : Inputs) (out : List Row) (spill : Bool)
    → AreFramed (columns_of sources source) (behind_columns sources) items condition slots inputs.sets (means_for read sources timed source inputs) out spill
    → means_for read sources timed (shape.Frames items condition slots source) inputs out spill
framed-means lengths items condition None source read sources timed a inputs out spill r = λ env sees.
    let result = r.of_source env sees in
    record {
      rows = r.rows;
      of_source = result;
      changed = subst (λ (s : List Stream). out ≡ framed (reached_row (seen_over env s source) items) (kept (seen_over env s source) condition r.rows))
          (sym sees.streams)
          (r.made (words_in env) (sees-words read sources timed env inputs sees)
          (results-long lengths source sources timed env r.rows spill a sees.streams sees.are_long result));
    }
framed-means lengths items condition (Some slots) source read sources timed a inputs out spill r = λ env sees.
    let result = r.of_source env sees in
    let long = results-long lengths source sources timed env r.rows r.source_spill a sees.streams sees.are_long result in
    let words = sees-words read sources timed env inputs sees in
    subst (λ (s : List Stream). IsFramed (columns_of s source) (seen_over env s source) items condition (Some slots) (IsResultIn source env) out spill) (sym sees.streams)
    (record { rows = r.rows; source_spill = r.source_spill; of_source = result; changed = r.made (words_in env) words long; any = r.told (words_in env) words long })

-- ---- results with places

-- what comes of a node is what comes of a query
abbrev pub ComeOf : (List ℕ → PlanNode) → List Stream → Bool → QueryShape → Arriving → Type 0
ComeOf read sources timed q from = (inputs : Inputs) (out : List (arrival.Placed Row)) (spill : Bool) → from inputs out spill → arrives_for read sources timed q inputs out spill

-- what is picked of rows of the source that came is what comes of the query
pub picked-arrives : ResultsAreLong → (pick : PickShape) (condition : Option ExprShape) (source : QueryShape) (read : List ℕ → PlanNode)
    (sources : List Stream) (timed : Bool) → IsAcceptedOver (record { sources = sources; timed = timed }) source → (from : Arriving)
    → ComeOf read sources timed source from
    → ComeOf read sources timed (shape.Rows pick condition source)
    (λ inputs. IsPickedInPlace (columns_of sources source) (behind_columns sources) pick condition inputs.sets (from inputs))
picked-arrives lengths pick condition source read sources timed a from comes inputs out spill r env sees =
    let result = comes inputs r.rows spill r.of_source env sees in
    record {
      rows = r.rows;
      of_source = result;
      changed = subst (λ (s : List Stream). out ≡ mapped_at (picked (seen_over env s source) pick) (kept_at (is_kept (seen_over env s source) condition) r.rows))
          (sym sees.streams)
          (r.made (words_in env) (sees-words read sources timed env inputs sees)
          (results-long lengths source sources timed env (arrival.rows_of r.rows) spill a sees.streams sees.are_long (arrived source env r.rows spill result)));
    }

-- what frames make of them as well
pub framed-arrives : ResultsAreLong → (items : List FrameItemShape) (condition : Option ExprShape) (slots : Option SlotsShape) (source : QueryShape) (read : List ℕ → PlanNode)
    (sources : List Stream) (timed : Bool) → IsAcceptedOver (record { sources = sources; timed = timed }) source → (from : Arriving)
    → ComeOf read sources timed source from
    → ComeOf read sources timed (shape.Frames items condition slots source)
    (λ inputs. AreFramedHere (columns_of sources source) (behind_columns sources) items condition slots inputs.sets (from inputs))
framed-arrives lengths items condition None source read sources timed a from comes inputs out spill r env sees =
    let result = comes inputs r.rows spill r.of_source env sees in
    record {
      rows = r.rows;
      of_source = result;
      changed = subst (λ (s : List Stream). out ≡ framed_at (reached_row (seen_over env s source) items) (kept_at (is_kept (seen_over env s source) condition) r.rows))
          (sym sees.streams)
          (r.made (words_in env) (sees-words read sources timed env inputs sees)
          (results-long lengths source sources timed env (arrival.rows_of r.rows) spill a sees.streams sees.are_long (arrived source env r.rows spill result)));
    }
framed-arrives lengths items condition (Some slots) source read sources timed a from comes inputs out spill r env sees =
    let result = comes inputs r.rows r.source_spill r.of_source env sees in
    let long = results-long lengths source sources timed env (arrival.rows_of r.rows) r.source_spill a sees.streams sees.are_long (arrived source env r.rows r.source_spill result) in
    let words = sees-words read sources timed env inputs sees in
    subst (λ (s : List Stream). IsFramedInPlace (columns_of s source) (seen_over env s source) items condition (Some slots) (ArrivesIn source env) out spill) (sym sees.streams)
    (record { rows = r.rows; source_spill = r.source_spill; of_source = result; changed = r.made (words_in env) words long; any = r.told (words_in env) words long })

-- and what a union by arrival makes of both sides
pub merged-arrives : (l r : QueryShape) (read : List ℕ → PlanNode) (sources : List Stream) (timed : Bool) (left right : Arriving)
    → ComeOf read sources timed l left → ComeOf read sources timed r right
    → ComeOf read sources timed (shape.ByArrival l r) (λ inputs. IsByArrival (left inputs) (right inputs))
merged-arrives l r read sources timed left right first second inputs out spill x env sees = record {
  left = x.left;
  right = x.right;
  left_spill = x.left_spill;
  right_spill = x.right_spill;
  of_left = first inputs x.left x.left_spill x.of_left env sees;
  of_right = second inputs x.right x.right_spill x.of_right env sees;
  in_order = x.in_order;
  either = x.either;
}

-- and what an as-of join makes of both sides
pub joined-arrives : ResultsAreLong → (l r : QueryShape) (slots : SlotsShape) (read : List ℕ → PlanNode) (sources : List Stream) (timed : Bool)
    → IsAcceptedOver (record { sources = sources; timed = timed }) l → IsAcceptedOver (record { sources = sources; timed = timed }) r → (left right : Arriving)
    → ComeOf read sources timed l left → ComeOf read sources timed r right
    → ComeOf read sources timed (shape.AsOf l r slots) (λ inputs. IsJoinedHere (columns_of sources l) (columns_of sources r) slots (left inputs) (right inputs))
joined-arrives lengths l r slots read sources timed a b left right first second inputs out spill x env sees =
    let of_left = first inputs x.left x.left_spill x.of_left env sees in
    let of_right = second inputs x.right x.right_spill x.of_right env sees in
    let h = results-long lengths l sources timed env (arrival.rows_of x.left) x.left_spill a sees.streams sees.are_long (arrived l env x.left x.left_spill of_left) in
    let k = results-long lengths r sources timed env (arrival.rows_of x.right) x.right_spill b sees.streams sees.are_long (arrived r env x.right x.right_spill of_right) in
    subst (λ (s : List Stream). IsAsOf (join_by (columns_of s l) (columns_of s r) slots) (ArrivesIn l env) (ArrivesIn r env) out spill) (sym sees.streams)
    (record {
      left = x.left;
      right = x.right;
      left_spill = x.left_spill;
      right_spill = x.right_spill;
      of_left = of_left;
      of_right = of_right;
      joined = x.made h k;
      any = x.told h k;
    })
