-- The columns of an accepted query are columns of a result: at most 32, no two of one name, and of kinds that are kinds.
use Rattle.std.proofs.Common.{◌≡◌, ℕ, zero, suc, ◌≤◌, Bool, true, false, List, [], ◌∷◌, length, map, sym, subst, arith, lit≤, length-append}
use Rattle.std.specs.Prelude.{◌||◌, IfSome, Option, None, Some, bytes_eq, remove, slice_get, unwrap_or, option_map, ◌&&◌, not}
use Rattle.std.specs.List.{AllByRecursion, IsDistinct, list_any}
use Rattle.gl_values.specs.declared.kind.Kind.{Kind}
use Rattle.gl_values.specs.declared.kind.Kind.TheVariants.{Unsigned}
use Rattle.gl_values.specs.declared.op.Op.{Op}
use Rattle.gl_values.specs.declared.op.Sort.{Sort}
use Rattle.gl_values.specs.declared.op.Sort.TheVariants.{Arithmetic, Comparison, Logic}
use Rattle.gl_values.specs.Kinds.{IsKind}
use Rattle.gl_values.specs.Operators.{sort_of}
use Rattle.gl_bits.proofs.AllLists.{all_append, length_map}
use Rattle.gl_bits.proofs.Bools.{by_cases}
use Rattle.gl_values.proofs.KindLemmas.{bit_is_kind, cast_kind}
use Rattle.gl_schema.specs.declared.schema.Column.{Column}
use Rattle.gl_schema.specs.declared.schema.Stream.{Stream}
use Rattle.gl_schema.specs.declared.schema.Schema.{Schema}
use Rattle.gl_schema.proofs.KindTable.{written_is}
use Rattle.gl_schema.specs.Schemas.{IsColumn, IsSchema, IsStream, has_stream}
use Rattle.gl_query.specs.Shapes.{AggItemShape, AggShape, ExprShape, FrameAggShape, FrameItemShape, FrameShape, ItemShape, QueryShape}
use Rattle.gl_query.specs.Shapes as shape
use Rattle.gl_query.specs.Values.{HasKind, begins_with_text, column_number, has_minus, kind_alone, kind_of, loose_kind, operand_place, operator_kind, own_kind}
use Rattle.gl_query.specs.Columns.{agg_column, agg_kind, but_key, frame_agg_kind, frame_column, frame_kind, item_column, source_columns, colon, marked, parameters_in, reach_of}
use Rattle.gl_query.specs.Accepted.{AreResultColumns, IsAcceptedOver, IsAgg, IsFrame, IsFrameAgg, Scope, body_scope, columns_under, can_read, reach_under, schema_scope}
use Rattle.gl_query.specs.Sizes.{HasFrame, HasItems}
use Rattle.gl_query.specs.Laws.{AcceptedHaveRealColumns, AreKinds}

-- what holds of the columns of each source
pub record IsScope (scope : Scope) : Type 0 where
  pub columns : (name : List ℕ) → AreResultColumns (source_columns scope.sources name)
  pub kinds : (name : List ℕ) → AreKinds (source_columns scope.sources name)

pub no_names : IsDistinct bytes_eq []
unfolding IsDistinct
no_names = tt

no_columns : AreResultColumns []
no_columns = record { most = lit≤ tt; distinct = no_names }

pub body_is : (scope : Scope) → IsScope scope → (var : List ℕ) (columns : List Column) → AreResultColumns columns → AreKinds columns → IsScope (body_scope scope var columns)
body_is scope s var columns h k = record {
  columns = λ name. by_cases (bytes_eq name colon) (λ e. rw e (s.columns colon))
      (λ e. rw e (by_cases (bytes_eq name var) (λ f. rw f h) (λ f. rw f no_columns)));
  kinds = λ name. by_cases (bytes_eq name colon) (λ e. rw e (s.kinds colon))
      (λ e. rw e (by_cases (bytes_eq name var) (λ f. rw f k) (λ f. rw f tt)));
}

marked_kinds : (parameters : List Column) → AreKinds parameters → AreKinds (map marked parameters)
marked_kinds [] h = tt
marked_kinds (p ∷ parameters) h = (h.0, marked_kinds parameters h.1)

-- what expressions may name has kinds
pub reach_kinds : (scope : Scope) → IsScope scope → (columns : List Column) → AreKinds columns → AreKinds (reach_of scope.sources columns)
reach_kinds scope s columns h =
    let parameters = parameters_in scope.sources in
    all_append (λ (c : Column). IsKind c.kind) columns (map marked parameters) h (marked_kinds parameters (s.kinds colon))

-- ---- kinds

-- each CAST of an expression is to a kind
abbrev CastsAreKinds : ExprShape → Type 0
CastsAreKinds (shape.Column name) = Unit {0}
CastsAreKinds (shape.Number n) = Unit {0}
CastsAreKinds (shape.Minus n) = Unit {0}
CastsAreKinds (shape.Letters text) = Unit {0}
CastsAreKinds (shape.Not e) = CastsAreKinds e
CastsAreKinds (shape.Flip e) = CastsAreKinds e
CastsAreKinds (shape.Cast kind e) = IsKind kind × CastsAreKinds e
CastsAreKinds (shape.Binary op l r) = CastsAreKinds l × CastsAreKinds r

pub casts_are : (e : ExprShape) (columns : List Column) (place : Kind) → HasKind columns place e → CastsAreKinds e
casts_are (shape.Column name) columns place h = tt
casts_are (shape.Number n) columns place h = tt
casts_are (shape.Minus n) columns place h = tt
casts_are (shape.Letters text) columns place h = tt
casts_are (shape.Not e) columns place h = casts_are e columns (Unsigned 1) h.0
casts_are (shape.Flip e) columns place h = casts_are e columns place h.0
casts_are (shape.Cast kind e) columns place h =
    (cast_kind (kind_of columns (kind_alone e) e) kind h.1, casts_are e columns (kind_alone e) h.0)
casts_are (shape.Binary op l r) columns place h =
    (casts_are l columns (operand_place columns op place l r) h.0, casts_are r columns (operand_place columns op place r l) h.1)

pub alone_kind : (e : ExprShape) → IsKind (kind_alone e)
alone_kind e =
    by_cases (begins_with_text e) (λ b. rw b (lit≤ tt, lit≤ tt))
    (λ b. rw b (by_cases (has_minus e) (λ m. rw m (lit≤ tt, lit≤ tt)) (λ m. rw m (lit≤ tt, lit≤ tt))))

loose_is : (sort : Sort) (whole : Kind) (e : ExprShape) → IsKind whole → IsKind (loose_kind sort whole e)
loose_is Arithmetic whole e h = h
loose_is Comparison whole e h = alone_kind e
loose_is Logic whole e h = bit_is_kind

-- the kind of the column at a place
pub kind_at : (columns : List Column) (place : ℕ) → AreKinds columns → IsKind (unwrap_or (option_map (λ c. c.kind) (slice_get columns place)) (Unsigned 1))
kind_at [] place h = bit_is_kind
kind_at (c ∷ cs) zero h = h.0
kind_at (c ∷ cs) (suc place) h = kind_at cs place h.1

operator_is : (sort : Sort) (left right : Option Kind) → IfSome left IsKind → IfSome right IsKind → IfSome (operator_kind sort left right) IsKind
operator_is Arithmetic None right h k = k
operator_is Arithmetic (Some kind) right h k = h
operator_is Comparison left right h k = bit_is_kind
operator_is Logic left right h k = bit_is_kind

own_is : (e : ExprShape) (columns : List Column) → AreKinds columns → CastsAreKinds e → IfSome (own_kind columns e) IsKind
own_is (shape.Column name) columns h c = kind_at columns (column_number columns name) h
own_is (shape.Number n) columns h c = tt
own_is (shape.Minus n) columns h c = tt
own_is (shape.Letters text) columns h c = tt
own_is (shape.Not e) columns h c = bit_is_kind
own_is (shape.Flip e) columns h c = own_is e columns h c
own_is (shape.Cast kind e) columns h c = c.0
own_is (shape.Binary op l r) columns h c =
    operator_is (sort_of op) (own_kind columns l) (own_kind columns r) (own_is l columns h c.0) (own_is r columns h c.1)

or_place : (own : Option Kind) (place : Kind) → IfSome own IsKind → IsKind place → IsKind (unwrap_or own place)
or_place None place h p = p
or_place (Some kind) place h p = h

pub kind_is : (e : ExprShape) (columns : List Column) (place : Kind) → AreKinds columns → IsKind place → CastsAreKinds e → IsKind (kind_of columns place e)
kind_is e columns place h p c = or_place (own_kind columns e) place (own_is e columns h c) p

pub place_is : (columns : List Column) (op : Op) (place : Kind) (e other : ExprShape) → AreKinds columns → IsKind place → CastsAreKinds other → IsKind (operand_place columns op place e other)
place_is columns op place e other h p c = or_place (own_kind columns other) (loose_kind (sort_of op) place e) (own_is other columns h c) (loose_is (sort_of op) place e p)

-- what stands alone
pub whole_is : (e : ExprShape) (columns : List Column) → AreKinds columns → HasKind columns (kind_alone e) e → IsKind (kind_of columns (kind_alone e) e)
whole_is e columns h t = kind_is e columns (kind_alone e) h (alone_kind e) (casts_are e columns (kind_alone e) t)

agg_is : (a : AggShape) (columns : List Column) → AreKinds columns → IsAgg columns a → IsKind (agg_kind columns a)
agg_is shape.Count columns h t = (lit≤ tt, lit≤ tt)
agg_is (shape.Sum e) columns h t = whole_is e columns h t.typed
agg_is (shape.Min e) columns h t = whole_is e columns h t
agg_is (shape.Max e) columns h t = whole_is e columns h t
agg_is (shape.Avg e) columns h t = whole_is e columns h t.typed
agg_is (shape.Wsum e weights) columns h t = whole_is e columns h t.summed.typed

items_are : (items : List ItemShape) (columns : List Column) → AreKinds columns → AllByRecursion (λ (i : ItemShape). HasKind columns (kind_alone i.expr) i.expr) items
    → AreKinds (map (item_column columns) items)
items_are [] columns h t = tt
items_are (i ∷ items) columns h t = (whole_is i.expr columns h t.0, items_are items columns h t.1)

aggs_are : (items : List AggItemShape) (columns : List Column) → AreKinds columns → AllByRecursion (λ (i : AggItemShape). IsAgg columns i.agg) items
    → AreKinds (map (agg_column columns) items)
aggs_are [] columns h t = tt
aggs_are (i ∷ items) columns h t = (agg_is i.agg columns h t.0, aggs_are items columns h t.1)

frame_agg_is : (a : FrameAggShape) (columns : List Column) → AreKinds columns → IsFrameAgg columns a → IsKind (frame_agg_kind columns a)
frame_agg_is shape.CountOver columns h t = (lit≤ tt, lit≤ tt)
frame_agg_is (shape.SumOver e) columns h t = whole_is e columns h t.typed
frame_agg_is (shape.MinOver e) columns h t = whole_is e columns h t
frame_agg_is (shape.MaxOver e) columns h t = whole_is e columns h t
frame_agg_is (shape.AvgOver e) columns h t = whole_is e columns h t.typed
frame_agg_is (shape.LastOver e) columns h t = whole_is e columns h t

frame_is : (f : FrameShape) (columns : List Column) → AreKinds columns → IsFrame columns f → IsKind (frame_kind columns f)
frame_is (shape.Own e) columns h t = whole_is e columns h t
frame_is (shape.Lag e back) columns h t = whole_is e columns h t.typed
frame_is (shape.Over agg filter back) columns h t = frame_agg_is agg columns h t.typed

frames_are : (items : List FrameItemShape) (columns : List Column) → AreKinds columns → AllByRecursion (λ (i : FrameItemShape). IsFrame columns i.frame) items
    → AreKinds (map (frame_column columns) items)
frames_are [] columns h t = tt
frames_are (i ∷ items) columns h t = (frame_is i.frame columns h t.0, frames_are items columns h t.1)

-- ---- queries

pub record AreReal (columns : List Column) : Type 0 where
  pub result : AreResultColumns columns
  pub kinds : AreKinds columns

-- the kinds of all columns but one
kinds_but : (columns : List Column) (i : ℕ) → AreKinds columns → AreKinds (remove columns i)
kinds_but [] zero h = tt
kinds_but [] (suc i) h = tt
kinds_but (c ∷ columns) zero h = h.1
kinds_but (c ∷ columns) (suc i) h = (h.0, kinds_but columns i h.1)

pub real : (q : QueryShape) (scope : Scope) → IsScope scope → IsAcceptedOver scope q → AreReal (columns_under scope q)
real (shape.Read name) scope s a = record { result = s.columns name; kinds = s.kinds name }
real (shape.Rows shape.All filter source) scope s a = real source scope s a.0
real (shape.Rows (shape.Items items) filter source) scope s a =
    let r = real source scope s a.0 in
    record { result = a.1.picks.result; kinds = items_are items (reach_under scope source) (reach_kinds scope s (columns_under scope source) r.kinds) a.1.picks.typed }
real (shape.Total aggs source) scope s a =
    let r = real source scope s a.0 in
    record { result = a.1.columns; kinds = aggs_are aggs (reach_under scope source) (reach_kinds scope s (columns_under scope source) r.kinds) a.1.typed }
real (shape.Frames items filter slots source) scope s a =
    let r = real source scope s a.0 in
    record { result = a.1.columns; kinds = frames_are items (reach_under scope source) (reach_kinds scope s (columns_under scope source) r.kinds) a.1.typed }
real (shape.Each measure var source size advance body) scope s a =
    let r = real source scope s a.0 in
    real body (body_scope scope var (columns_under scope source)) (body_is scope s var (columns_under scope source) r.result r.kinds) a.2
real (shape.PerGroup var source key groups body) scope s a =
    let columns = columns_under scope source in
    let r = real source scope s a.0 in
    let inner = real body (body_scope scope var columns) (body_is scope s var columns r.result r.kinds) a.2 in
    record { result = a.1.columns; kinds = (kind_at columns (column_number columns key) r.kinds, inner.kinds) }
real (shape.Partition var source key groups size advance body) scope s a =
    let columns = columns_under scope source in
    let r = real source scope s a.0 in
    let inner = real body (body_scope scope var columns) (body_is scope s var columns r.result r.kinds) a.2 in
    record { result = a.1.grouping.columns; kinds = (kind_at columns (column_number columns key) r.kinds, inner.kinds) }
real (shape.Union l r) scope s a = real l scope s a.0
real (shape.ByArrival l r) scope s a = real l scope s a.0
real (shape.AsOf l r slots) scope s a =
    let x = real l scope s a.0 in
    let y = real r scope s a.1 in
    let rights : List Column = columns_under scope r in
    record {
      result = a.3.columns;
      kinds =
          all_append (λ (c : Column). IsKind c.kind) (columns_under scope l) (but_key slots.key rights) x.kinds
          (kinds_but rights (column_number rights slots.key) y.kinds);
    }
real (shape.Concat l r) scope s a =
    let x = real l scope s a.0 in
    let y = real r scope s a.1 in
    record { result = a.3; kinds = all_append (λ (c : Column). IsKind c.kind) (columns_under scope l) (columns_under scope r) x.kinds y.kinds }

-- ---- schemas

abbrev AreStreams : List Stream → Type 0
AreStreams streams = AllByRecursion IsStream streams

column_kinds : (columns : List Column) → AllByRecursion IsColumn columns → AreKinds columns
column_kinds [] h = tt
column_kinds (c ∷ cs) h = (written_is c.kind h.0.kind, column_kinds cs h.1)

stream_columns : (streams : List Stream) (name : List ℕ) → AreStreams streams → AreReal (source_columns streams name)
stream_columns [] name h = record { result = no_columns; kinds = tt }
stream_columns (s ∷ streams) name h =
    by_cases (bytes_eq name s.name)
    (λ e. rw e (record { result = record { most = h.0.most; distinct = h.0.distinct }; kinds = column_kinds s.columns h.0.columns }))
    (λ e. rw e (stream_columns streams name h.1))

pub schema_is : (schema : Schema) → IsSchema schema → IsScope (schema_scope schema)
schema_is schema h = record {
  columns = λ name. by_cases (bytes_eq name colon) (λ e. rw e (record { most = h.declared.most; distinct = h.declared.distinct }))
      (λ e. rw e (stream_columns schema.streams name h.streams).result);
  kinds = λ name. by_cases (bytes_eq name colon) (λ e. rw e (column_kinds schema.parameters h.declared.each))
      (λ e. rw e (stream_columns schema.streams name h.streams).kinds);
}

-- ---- at least one column

-- each source that can be read has a column
HasSome : Scope → Type 0
HasSome scope = (name : List ℕ) → can_read scope.sources name ≡ true → 1 ≤ length (source_columns scope.sources name)

not_true_false : false ≡ true → ⊥
not_true_false e = cc

body_some : (scope : Scope) (var : List ℕ) (columns : List Column) → 1 ≤ length columns → HasSome (body_scope scope var columns)
unfolding HasSome has_stream
body_some scope var columns h name t =
    by_cases (bytes_eq name colon)
    (λ e. absurd (not_true_false (subst (λ (b : Bool). (not b && (b || (bytes_eq name var || false))) ≡ true) e t)))
    (λ e. let u : (bytes_eq name var || false) ≡ true = subst (λ (b : Bool). (not b && (b || (bytes_eq name var || false))) ≡ true) e t in
    rw e (by_cases (bytes_eq name var) (λ f. rw f h) (λ f. absurd (not_true_false (subst (λ (b : Bool). (b || false) ≡ true) f u)))))

streams_some : (streams : List Stream) → AreStreams streams → (name : List ℕ) → has_stream streams name ≡ true → 1 ≤ length (source_columns streams name)
unfolding has_stream
streams_some [] h name t = absurd (cc)
streams_some (s ∷ streams) h name t =
    by_cases (bytes_eq name s.name) (λ e. rw e h.0.some')
    (λ e. rw e (streams_some streams h.1 name (subst (λ (b : Bool). (b || list_any (λ (x : Stream). bytes_eq name x.name) streams) ≡ true) e t)))

schema_some : (schema : Schema) → AreStreams schema.streams → HasSome (schema_scope schema)
unfolding HasSome has_stream
schema_some schema h name t =
    let among : Bool = list_any (λ (x : Stream). bytes_eq name x.name) schema.streams in
    by_cases (bytes_eq name colon)
    (λ e. absurd (not_true_false (subst (λ (b : Bool). (not b && (b || among)) ≡ true) e t)))
    (λ e. rw e (streams_some schema.streams h name (subst (λ (b : Bool). (not b && (b || among)) ≡ true) e t)))

some_frame : (columns : List Column) (items : List FrameItemShape) → HasFrame items → 1 ≤ length (map (frame_column columns) items)
some_frame columns [] h = absurd (cc)
some_frame columns (i ∷ items) h = omega arith

some : (q : QueryShape) (scope : Scope) → HasSome scope → HasItems q → IsAcceptedOver scope q → 1 ≤ length (columns_under scope q)
unfolding HasSome
some (shape.Read name) scope s i a = s name a
some (shape.Rows shape.All filter source) scope s i a = some source scope s i.0 a.0
some (shape.Rows (shape.Items items) filter source) scope s i a =
    subst (λ (k : ℕ). 1 ≤ k) (sym (length_map (item_column (reach_under scope source)) items)) i.1
some (shape.Total aggs source) scope s i a = subst (λ (k : ℕ). 1 ≤ k) (sym (length_map (agg_column (reach_under scope source)) aggs)) i.1
some (shape.Frames items filter slots source) scope s i a = some_frame (reach_under scope source) items i.1
some (shape.Each measure var source size advance body) scope s i a =
    some body (body_scope scope var (columns_under scope source)) (body_some scope var (columns_under scope source) (some source scope s i.0 a.0)) i.1 a.2
some (shape.PerGroup var source key groups body) scope s i a = omega arith
some (shape.Partition var source key groups size advance body) scope s i a = omega arith
some (shape.Union l r) scope s i a = some l scope s i.0 a.0
some (shape.ByArrival l r) scope s i a = some l scope s i.0 a.0
some (shape.AsOf l r slots) scope s i a =
    let h = some l scope s i.0 a.0 in
    let e = length-append (columns_under scope l) (but_key slots.key (columns_under scope r)) in
    omega (arith, h, e)
some (shape.Concat l r) scope s i a =
    let h = some l scope s i.0 a.0 in
    let e = length-append (columns_under scope l) (columns_under scope r) in
    omega (arith, h, e)

pub real_columns : AcceptedHaveRealColumns
real_columns schema q s a =
    let r = real q (schema_scope schema) (schema_is schema s) a in
    record {
      some' = λ i. some q (schema_scope schema) (schema_some schema s.streams) i a;
      result = r.result;
      kinds = r.kinds;
    }
