-- Code can place a checked statement: its columns have numbers of 16 bits.
use Rattle.std.proofs.Common.{◌≡◌, ℕ, zero, suc, ◌+◌, ◌*◌, ◌≤◌, Bool, true, false, List, [], ◌∷◌, ◌++◌, length, Option, Some, None, refl, ap, ◌∙◌, arith, map, lit≤, length-append}
use Rattle.std.specs.Prelude.{option_to_list}
use Rattle.std.specs.List.{AllByRecursion, range_with_len}
use Rattle.std.proofs.lemmas.List.{length-map}
use Rattle.gl_values.specs.Kinds.{IsKind}
use Rattle.gl_values.specs.declared.kind.Kind.{Kind}
use Rattle.gl_values.specs.declared.kind.Kind.TheVariants.{Unsigned}
use Rattle.gl_schema.specs.declared.schema.Column.{Column as NamedColumn}
use Rattle.gl_schema.specs.declared.schema.Stream.{Stream}
use Rattle.gl_schema.specs.declared.schema.Schema.{Schema}
use Rattle.gl_query.specs.declared.tree.Statement.{Statement}
use Rattle.gl_query.specs.Shapes.{ExprShape, ItemShape, AggShape, AggItemShape, FrameAggShape, FrameShape, FrameItemShape, PickShape, QueryShape, SlotsShape, query_shape}
use Rattle.gl_query.specs.Shapes as shape
use Rattle.gl_query.specs.Values.{column_number, kind_alone, operand_place}
use Rattle.gl_query.specs.Columns.{agg_column, agg_kind, colon, columns_of, frame_column, inside, item_column, marked, parameters_in, reach_of, sources_of}
use Rattle.gl_query.specs.Accepted.{IsAcceptedOver, IsFilter, IsFrame, IsParted, IsPick}
use Rattle.gl_query.specs.Sizes.{IsSmall, QueryIsSmall, operators_in}
use Rattle.gl_query.specs.Parts.{InAgg, InAggItem, InFilter, InFrame, InFrameAgg, InFrameItem, InItem, InPick}
use Rattle.gl_query.specs.Checked.{IsChecked}
use Rattle.gl_query.specs.Laws.{AreKinds}
use Rattle.gl_query.proofs.Real.{IsScope, body_is, reach_kinds, real}
use Rattle.gl_bits.proofs.AllLists.{all_of_mapped}
use Rattle.gl_elaborate.specs.Terms.{Term, Column, Literal, Parameter, Not, Flip, Cast, Binary, ops_in, ops_in_all, term_of, term_over}
use Rattle.gl_elaborate.specs.Plans.{condition_of, filter_of, frame_arguments, frame_terms, frames_terms, picked_terms, arguments_of, arguments_of_all}
use Rattle.gl_elaborate.specs.Fitting.{CanPlace, CanPlaceSlots, FilterTerm, FrameTerms, HasReach}
use Rattle.gl_elaborate.proofs.AcceptedLemmas.{column-fits}
use Rattle.gl_elaborate.proofs.ApartLemmas.{apart-ops, over-fits}
use Rattle.gl_elaborate.proofs.PastLemmas.{no_colon}
use Rattle.gl_elaborate.proofs.RowsLemmas.{pick-fits}
use Rattle.gl_elaborate.proofs.TotalsLemmas.{argument-term, arguments-fit}
use Rattle.gl_elaborate.proofs.FramesLemmas.{own-arguments-fit}
use Rattle.gl_elaborate.proofs.RoomLemmas.{ops-both}
use Rattle.gl_elaborate.proofs.StatementLemmas.{schema-reader}

-- no more is asked of names
abbrev AnyName : List ℕ → Type 0
AnyName name = Unit {0}

-- ---- operations

term-ops : (columns : List NamedColumn) (place : Kind) (e : ExprShape) → ops_in (term_of columns place e) ≡ operators_in e
term-ops columns place (shape.Column name) = refl
term-ops columns place (shape.Number n) = refl
term-ops columns place (shape.Minus n) = refl
term-ops columns place (shape.Letters text) = refl
term-ops columns place (shape.Not e) = ap (λ (n : ℕ). 1 + n) (term-ops columns (Unsigned 1) e)
term-ops columns place (shape.Flip e) = ap (λ (n : ℕ). 1 + n) (term-ops columns place e)
term-ops columns place (shape.Cast kind e) = ap (λ (n : ℕ). 1 + n) (term-ops columns (kind_alone e) e)
term-ops columns place (shape.Binary o l r) = λ i.
    1 + term-ops columns (operand_place columns o place l r) l i + term-ops columns (operand_place columns o place r l) r i

condition-ops : (t : Term) → ops_in (condition_of t) ≤ ops_in t + 1
condition-ops (Column n) = omega arith
condition-ops (Literal w k) = omega arith
condition-ops (Parameter n k) = omega arith
condition-ops (Not t) = omega arith
condition-ops (Flip t) = omega arith
condition-ops (Cast t k) = omega arith
condition-ops (Binary o l r) = omega arith

columns-ops : (k n : ℕ) → ops_in_all (map Column (range_with_len k n)) ≡ 0
columns-ops k zero = refl
columns-ops k (suc n) = let rest = columns-ops (k + 1) n in omega arith

module _ (columns reach : List NamedColumn) where
  over-ops : (place : Kind) (e : ExprShape) → ops_in (term_over columns reach place e) ≡ operators_in e
  over-ops place e = apart-ops (length columns) reach (term_of reach place e) ∙ term-ops reach place e

  items-ops : (items : List ItemShape) → AllByRecursion (InItem IsSmall AnyName) items
      → ops_in_all (map (λ (i : ItemShape). term_over columns reach (kind_alone i.expr) i.expr) items) ≤ 256 * length items
  items-ops [] h = omega arith
  items-ops (i ∷ items) h =
      let one = over-ops (kind_alone i.expr) i.expr in
      let small : operators_in i.expr ≤ 256 = h.0.0 in
      let rest = items-ops items h.1 in
      omega arith

  pick-ops : (pick : PickShape) → IsPick reach pick → InPick IsSmall AnyName pick → ops_in_all (picked_terms columns reach pick) ≤ 8192
  pick-ops shape.All h s = let none = columns-ops 0 (length columns) in omega arith
  pick-ops (shape.Items items) h s =
      let all = items-ops items s in
      let few = h.result.most in
      let same = length-map items (item_column reach) in
      omega arith

  filter-ops : (condition : Option ExprShape) → InFilter IsSmall condition → ops_in_all (option_to_list (filter_of columns reach condition)) ≤ 257
  filter-ops None s = omega arith
  filter-ops (Some e) s =
      let one = over-ops (Unsigned 1) e in
      let more = condition-ops (term_over columns reach (Unsigned 1) e) in
      let small : operators_in e ≤ 256 = s in
      omega arith

  -- one expression alone
  alone-ops : (e : ExprShape) → IsSmall e → ops_in_all (term_over columns reach (kind_alone e) e ∷ []) ≤ 256
  alone-ops e s =
      let one = over-ops (kind_alone e) e in
      let small : operators_in e ≤ 256 = s in
      omega arith

  argument-ops : (a : AggShape) → InAgg IsSmall a → ops_in_all (arguments_of columns reach a) ≤ 256
  argument-ops shape.Count s = omega arith
  argument-ops (shape.Sum e) s = alone-ops e s
  argument-ops (shape.Min e) s = alone-ops e s
  argument-ops (shape.Max e) s = alone-ops e s
  argument-ops (shape.Avg e) s = alone-ops e s
  argument-ops (shape.Wsum e weights) s = alone-ops e s

  arguments-ops : (items : List AggItemShape) → AllByRecursion (InAggItem IsSmall AnyName) items
      → ops_in_all (arguments_of_all columns reach items) ≤ 256 * length items
  arguments-ops [] h = omega arith
  arguments-ops (i ∷ items) h =
      let one = argument-ops i.agg h.0.0 in
      let rest = arguments-ops items h.1 in
      let both = ops-both (arguments_of columns reach i.agg) (arguments_of_all columns reach items) in
      omega arith

  frame-argument-ops : (a : FrameAggShape) → InFrameAgg IsSmall a → ops_in_all (frame_arguments columns reach a) ≤ 256
  frame-argument-ops shape.CountOver s = omega arith
  frame-argument-ops (shape.SumOver e) s = alone-ops e s
  frame-argument-ops (shape.MinOver e) s = alone-ops e s
  frame-argument-ops (shape.MaxOver e) s = alone-ops e s
  frame-argument-ops (shape.AvgOver e) s = alone-ops e s
  frame-argument-ops (shape.LastOver e) s = alone-ops e s

  frame-ops : (f : FrameShape) → InFrame IsSmall f → ops_in_all (frame_terms columns reach f) ≤ 513
  frame-ops (shape.Own e) s = let one = alone-ops e s in omega arith
  frame-ops (shape.Lag e back) s = let one = alone-ops e s in omega arith
  frame-ops (shape.Over agg condition back) s =
      let first = frame-argument-ops agg s.0 in
      let second = filter-ops condition s.1 in
      let both = ops-both (frame_arguments columns reach agg) (option_to_list (filter_of columns reach condition)) in
      omega arith

  frames-ops : (items : List FrameItemShape) → AllByRecursion (InFrameItem IsSmall AnyName) items
      → ops_in_all (frames_terms columns reach items) ≤ 513 * length items
  frames-ops [] h = omega arith
  frames-ops (i ∷ items) h =
      let one = frame-ops i.frame h.0.0 in
      let rest = frames-ops items h.1 in
      let both = ops-both (frame_terms columns reach i.frame) (frames_terms columns reach items) in
      omega arith

-- ---- queries

module _ (columns parameters : List NamedColumn) (kinds : AreKinds (columns ++ parameters)) where
  filter-term : (condition : Option ExprShape) → IsFilter (columns ++ parameters) condition → FilterTerm columns (columns ++ parameters) condition
  filter-term None h = tt
  filter-term (Some e) h = over-fits columns parameters kinds e (Unsigned 1) (lit≤ tt, lit≤ tt) h.typed

  frame-term : (f : FrameShape) → IsFrame (columns ++ parameters) f → FrameTerms columns (columns ++ parameters) f
  frame-term (shape.Own e) h = argument-term columns parameters kinds e h
  frame-term (shape.Lag e back) h = argument-term columns parameters kinds e h.typed
  frame-term (shape.Over agg condition back) h = (own-arguments-fit columns parameters kinds agg h.typed, filter-term condition h.picks)

  frame-terms : (items : List FrameItemShape) → AllByRecursion (λ (i : FrameItemShape). IsFrame (columns ++ parameters) i.frame) items
      → AllByRecursion (λ (i : FrameItemShape). FrameTerms columns (columns ++ parameters) i.frame) items
  frame-terms [] h = tt
  frame-terms (i ∷ items) h = (frame-term i.frame h.0, frame-terms items h.1)

-- at most 32 parameters stand behind the columns
near : (sources : List Stream) (columns : List NamedColumn) → length (parameters_in sources) ≤ 32 → HasReach columns (reach_of sources columns)
near sources columns few =
    let long = length-append columns (map marked (parameters_in sources)) in
    let same = length-map (parameters_in sources) marked in
    omega arith

slots-can : (columns : List NamedColumn) → AreKinds columns → length columns ≤ 32 → (slots : Option SlotsShape) → IsParted columns slots → CanPlaceSlots columns slots
slots-can columns kinds few None h = tt
slots-can columns kinds few (Some s) h =
    let known = column-fits columns kinds s.key h.known in
    let same = length-map columns (λ (c : NamedColumn). c.kind) in
    let below : column_number columns s.key ≤ 255 = omega (arith, few, known, same) in
    (below, h.most_groups)

items-are : (columns : List NamedColumn) (items : List AggItemShape) → AreKinds (map (agg_column columns) items)
    → AllByRecursion (λ (i : AggItemShape). IsKind (agg_kind columns i.agg)) items
items-are columns items h = all_of_mapped (λ (c : NamedColumn). IsKind c.kind) (agg_column columns) items h

can : (q : QueryShape) (sources : List Stream) (timed : Bool) → length sources ≤ 9 → IsScope (record { sources = sources; timed = timed })
    → IsAcceptedOver (record { sources = sources; timed = timed }) q → QueryIsSmall q → CanPlace sources q
can (shape.Read name) sources timed most is a s = (most, no_colon sources name a)
can (shape.Rows pick condition source) sources timed most is a s =
    let columns = columns_of sources source in
    let behind = map marked (parameters_in sources) in
    let reach = reach_of sources columns in
    let own = real source (record { sources = sources; timed = timed }) is a.0 in
    let kinds = reach_kinds (record { sources = sources; timed = timed }) is columns own.kinds in
    let narrow = own.result.most in
    let picks = pick-ops columns reach pick a.1.picks s.1 in
    let filters = filter-ops columns reach condition s.2 in
    let both = ops-both (picked_terms columns reach pick) (option_to_list (filter_of columns reach condition)) in (
      can source sources timed most is a.0 s.0,
      record {
        rows = a.1;
        terms = pick-fits columns behind kinds pick a.1.picks;
        filter_term = filter-term columns behind kinds condition a.1.filters;
        room = omega arith;
        near = near sources columns (is.columns colon).most;
      },
    )
can (shape.Total aggs source) sources timed most is a s =
    let columns = columns_of sources source in
    let behind = map marked (parameters_in sources) in
    let reach = reach_of sources columns in
    let own = real source (record { sources = sources; timed = timed }) is a.0 in
    let kinds = reach_kinds (record { sources = sources; timed = timed }) is columns own.kinds in
    let whole = real (shape.Total aggs source) (record { sources = sources; timed = timed }) is a in
    let narrow = own.result.most in
    let all = arguments-ops columns reach aggs s.1 in
    let short = a.1.columns.most in
    let same = length-map aggs (agg_column reach) in (
      can source sources timed most is a.0 s.0,
      record {
        typed = a.1.typed;
        kinds = items-are reach aggs whole.kinds;
        terms = arguments-fit columns behind kinds aggs a.1.typed;
        room = omega arith;
        near = near sources columns (is.columns colon).most;
      },
    )
can (shape.Frames items condition slots source) sources timed most is a s =
    let columns = columns_of sources source in
    let behind = map marked (parameters_in sources) in
    let reach = reach_of sources columns in
    let own = real source (record { sources = sources; timed = timed }) is a.0 in
    let kinds = reach_kinds (record { sources = sources; timed = timed }) is columns own.kinds in
    let narrow = own.result.most in
    let all = frames-ops columns reach items s.1 in
    let filters = filter-ops columns reach condition s.2 in
    let both = ops-both (frames_terms columns reach items) (option_to_list (filter_of columns reach condition)) in
    let short = a.1.columns.most in
    let same = length-map items (frame_column reach) in (
      can source sources timed most is a.0 s.0,
      record {
        typed = a.1.typed;
        filters = a.1.filters;
        terms = frame-terms columns behind kinds items a.1.typed;
        filter_term = filter-term columns behind kinds condition a.1.filters;
        room = omega arith;
        near = near sources columns (is.columns colon).most;
      },
      slots-can columns own.kinds narrow slots a.1.parted,
    )
can (shape.Each measure var source size advance body) sources timed most is a s =
    let columns = columns_of sources source in
    let own = real source (record { sources = sources; timed = timed }) is a.0 in (
      can source sources timed most is a.0 s.0,
      can body (inside sources var columns) false (lit≤ tt) (body_is (record { sources = sources; timed = timed }) is var columns own.result own.kinds) a.2 s.1,
      a.1.most_size,
      a.1.most_advance,
    )
can (shape.PerGroup var source key count body) sources timed most is a s =
    let columns = columns_of sources source in
    let own = real source (record { sources = sources; timed = timed }) is a.0 in
    let narrow = own.result.most in
    let known = column-fits columns own.kinds key a.1.known in
    let same = length-map columns (λ (c : NamedColumn). c.kind) in (
      can source sources timed most is a.0 s.0,
      can body (inside sources var columns) false (lit≤ tt) (body_is (record { sources = sources; timed = timed }) is var columns own.result own.kinds) a.2 s.1,
      omega arith,
      a.1.most_groups,
    )
can (shape.Partition var source key count size advance body) sources timed most is a s =
    let columns = columns_of sources source in
    let own = real source (record { sources = sources; timed = timed }) is a.0 in
    let narrow = own.result.most in
    let known = column-fits columns own.kinds key a.1.grouping.known in
    let same = length-map columns (λ (c : NamedColumn). c.kind) in (
      can source sources timed most is a.0 s.0,
      can body (inside sources var columns) false (lit≤ tt) (body_is (record { sources = sources; timed = timed }) is var columns own.result own.kinds) a.2 s.1,
      omega arith,
      a.1.grouping.most_groups,
      a.1.window.most_size,
      a.1.window.most_advance,
    )
can (shape.Union l r) sources timed most is a s = (can l sources timed most is a.0 s.0, can r sources timed most is a.1 s.1)
can (shape.ByArrival l r) sources timed most is a s = (can l sources timed most is a.0 s.0, can r sources timed most is a.1 s.1)
can (shape.AsOf l r slots) sources timed most is a s =
    let lefts = columns_of sources l in
    let rights = columns_of sources r in
    let first = real l (record { sources = sources; timed = timed }) is a.0 in
    let second = real r (record { sources = sources; timed = timed }) is a.1 in
    let at_left = column-fits lefts first.kinds slots.key a.3.of_left.known in
    let at_right = column-fits rights second.kinds slots.key a.3.of_right.known in
    let long = length-map lefts (λ (c : NamedColumn). c.kind) in
    let long' = length-map rights (λ (c : NamedColumn). c.kind) in (
      can l sources timed most is a.0 s.0,
      can r sources timed most is a.1 s.1,
      record {
        left_kinds = first.kinds;
        right_kinds = second.kinds;
        few_lefts = first.result.most;
        few_rights = second.result.most;
        left_key = omega (arith, at_left, long);
        right_key = omega (arith, at_right, long');
        groups = a.3.of_left.most_groups;
      },
    )
can (shape.Concat l r) sources timed most is a s = (can l sources timed most is a.0 s.0, can r sources timed most is a.1 s.1)

pub can-place : (schema : Schema) (statement : Statement) → IsChecked schema statement → CanPlace (sources_of schema) (query_shape statement.query)
can-place schema statement checked =
    let few = checked.of_schema.most in
    can (query_shape statement.query) (sources_of schema) true (omega arith) (schema-reader schema checked.of_schema).scope checked.accepted checked.small
