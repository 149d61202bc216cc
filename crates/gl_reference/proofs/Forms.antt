-- The result of a form, from the results of its parts.
use Rattle.std.proofs.Common.{◌≡◌, ℕ, List, ◌++◌, Bool, false, sym, ap, subst, ◌∙◌}
use Rattle.std.specs.Prelude.{◌||◌, Option, None, Some, slice_index}
use Rattle.gl_bits.proofs.Bools.{or_none}
use Rattle.gl_values.specs.Lists.{Group, IsInterleaving, groups, has_further}
use Rattle.gl_values.specs.Partitions.{parts}
use Rattle.gl_values.specs.Tables.{keyed_groups}
use Rattle.gl_values.specs.declared.lists.Group.{Group as Keyed}
use Rattle.gl_schema.specs.declared.schema.Column.{Column}
use Rattle.gl_query.specs.declared.tree.Measure.{Measure}
use Rattle.gl_query.specs.Shapes.{ExprShape, FrameItemShape, QueryShape, SlotsShape}
use Rattle.gl_query.specs.Shapes as shape
use Rattle.gl_query.specs.Values.{column_number}
use Rattle.gl_values.specs.Results.{Row, AreBeside}
use Rattle.gl_query.specs.Results.{ArrivesIn, Env, IsFramed, IsResultIn, Reach, columns_in, kept, reach_in, streams_of, ticks_in, times_in, words_in}
use Rattle.gl_arrival.specs.Places.{Placed, rows_of}
use Rattle.gl_arrival.specs.Results.{IsByArrival}
use Rattle.gl_query.specs.Columns.{reach_of}
use Rattle.gl_query.specs.Windows.{parts_of}
use Rattle.gl_query.proofs.Existing.{first_then_second}
use Rattle.gl_reference.specs.Frames.{framed_rows, left_out}
use Rattle.gl_reference.specs.Joins.{AreOverGroups, AreOverSlices, IsOverGroup}
use Rattle.gl_reference.specs.Partitions.{table_parts}
use Rattle.gl_reference.proofs.Joining.{joined_map}

frames_are : (env : Env) (columns : List Column) (reach : Reach) (items : List FrameItemShape) (filter : Option ExprShape) (slots : Option SlotsShape) (source : QueryShape) (from : List Row) (before : Bool) (out : List Row) (spill : Bool)
    → IsResultIn source env from before → out ≡ framed_rows columns reach items slots (kept reach filter from) → spill ≡ (before || left_out columns slots (kept reach filter from))
    → IsFramed columns reach items filter slots (IsResultIn source env) out spill
frames_are env columns reach items filter None source from before out spill is eo es =
    record { rows = from; of_source = subst (IsResultIn source env from) (sym (es ∙ or_none before)) is; changed = eo }
frames_are env columns reach items filter (Some s) source from before out spill is eo es =
    record { rows = from; source_spill = before; of_source = is; changed = eo; any = es }

-- what expressions over columns see in an environment
abbrev over : Env → List Column → Reach
over env columns = record { columns = reach_of (streams_of env) columns; words = words_in env }

pub frames_made : (env : Env) (items : List FrameItemShape) (filter : Option ExprShape) (slots : Option SlotsShape) (source : QueryShape) (from : List Row) (before : Bool) (columns : List Column) (out : List Row) (spill : Bool)
    → IsResultIn source env from before → columns ≡ columns_in env source
    → (out ≡ framed_rows columns (over env columns) items slots (kept (over env columns) filter from)) × (spill ≡ (before || left_out columns slots (kept (over env columns) filter from)))
    → IsResultIn (shape.Frames items filter slots source) env out spill
frames_made env items filter slots source from before columns out spill is ec (eo, es) =
    frames_are env (columns_in env source) (reach_in env source) items filter slots source from before out spill is
    (eo ∙ ap (λ (k : List Column). framed_rows k (over env k) items slots (kept (over env k) filter from)) ec)
    (es ∙ ap (λ (k : List Column). before || left_out k slots (kept (over env k) filter from)) ec)

pub each_made : (measure : Measure) (env : Env) (var : List ℕ) (source : QueryShape) (size advance : ℕ) (body : QueryShape) (from : List Row) (before : Bool) (seen : QueryShape) (named : List ℕ) (columns : List Column) (parts : List (List Row)) (inside out : List Row) (within spill : Bool)
    → IsResultIn source env from before → seen ≡ body → named ≡ var → columns ≡ columns_in env source → parts ≡ parts_of measure size advance (times_in env source) (ticks_in env source) from
    → AreOverSlices seen env named columns parts inside within → out ≡ inside → spill ≡ (before || within || false)
    → IsResultIn (shape.Each measure var source size advance body) env out spill
each_made measure env var source size advance body from before seen named columns parts inside out within spill is eb ev ec ep j eo es =
    let a = subst (λ (b : QueryShape). AreOverSlices b env named columns parts inside within) eb j in
    let b = subst (λ (v : List ℕ). AreOverSlices body env v columns parts inside within) ev a in
    let c = subst (λ (k : List Column). AreOverSlices body env var k parts inside within) ec b in
    let d = subst (λ (p : List (List Row)). AreOverSlices body env var (columns_in env source) p inside within) ep c in
    let e = subst (λ (o : List Row). AreOverSlices body env var (columns_in env source) (parts_of measure size advance (times_in env source) (ticks_in env source) from) o within) (sym eo) d in
    record { rows = from; source_spill = before; parts_spill = within; of_source = is; of_parts = e; any = es }

pub groups_made : (env : Env) (var : List ℕ) (source : QueryShape) (key : List ℕ) (n : ℕ) (body : QueryShape) (from : List Row) (before : Bool) (seen : QueryShape) (named : List ℕ) (columns : List Column) (most column : ℕ) (parts : List Keyed) (inside out : List Row) (within further spill : Bool)
    → IsResultIn source env from before → seen ≡ body → named ≡ var → columns ≡ columns_in env source → most ≡ n → column ≡ column_number columns key
    → parts ≡ keyed_groups most column from → AreOverGroups seen env named columns parts inside within → further ≡ has_further most (λ (r : Row). slice_index r column) from
    → out ≡ inside → spill ≡ (before || within || further)
    → IsResultIn (shape.PerGroup var source key n body) env out spill
groups_made env var source key n body from before seen named columns most column parts inside out within further spill is eb ev ec em ek ep j ef eo es =
    let place : column ≡ column_number (columns_in env source) key = ek ∙ ap (λ (k : List Column). column_number k key) ec in
    let whole : parts ≡ keyed_groups n (column_number (columns_in env source) key) from =
    ep ∙ ap (λ (m : ℕ). keyed_groups m column from) em ∙ ap (λ (k : ℕ). keyed_groups n k from) place in
    let left : further ≡ has_further n (λ (r : Row). slice_index r (column_number (columns_in env source) key)) from =
    ef ∙ ap (λ (m : ℕ). has_further m (λ (r : Row). slice_index r column) from) em ∙ ap (λ (k : ℕ). has_further n (λ (r : Row). slice_index r k) from) place in
    let a = subst (λ (b : QueryShape). AreOverGroups b env named columns parts inside within) eb j in
    let b = subst (λ (v : List ℕ). AreOverGroups body env v columns parts inside within) ev a in
    let c = subst (λ (k : List Column). AreOverGroups body env var k parts inside within) ec b in
    let d = subst (λ (p : List Keyed). AreOverGroups body env var (columns_in env source) p inside within) whole c in
    let e = subst (λ (o : List Row). AreOverGroups body env var (columns_in env source) (keyed_groups n (column_number (columns_in env source) key) from) o within) (sym eo) d in
    let shown : Group Row → Keyed = λ g. record { key = g.key; rows = g.rows } in
    let group = IsOverGroup body env var (columns_in env source) in
    let f = joined_map shown group (groups n (λ (r : Row). slice_index r (column_number (columns_in env source) key)) from) out within e in
    record { rows = from; source_spill = before; parts_spill = within; of_source = is; of_parts = f; any = es ∙ ap (λ (x : Bool). before || within || x) left }

pub partitions_made : (env : Env) (var : List ℕ) (source : QueryShape) (key : List ℕ) (n size advance : ℕ) (body : QueryShape) (from : List Row) (before : Bool) (seen : QueryShape) (named : List ℕ) (columns : List Column) (most column : ℕ) (windows : List Keyed) (inside out : List Row) (within further spill : Bool)
    → IsResultIn source env from before → seen ≡ body → named ≡ var → columns ≡ columns_in env source → most ≡ n → column ≡ column_number columns key
    → windows ≡ table_parts most column size advance from → AreOverGroups seen env named columns windows inside within → further ≡ has_further most (λ (r : Row). slice_index r column) from
    → out ≡ inside → spill ≡ (before || within || further)
    → IsResultIn (shape.Partition var source key n size advance body) env out spill
partitions_made env var source key n size advance body from before seen named columns most column windows inside out within further spill is eb ev ec em ek ep j ef eo es =
    let place : column ≡ column_number (columns_in env source) key = ek ∙ ap (λ (k : List Column). column_number k key) ec in
    let whole : windows ≡ table_parts n (column_number (columns_in env source) key) size advance from =
    ep ∙ ap (λ (m : ℕ). table_parts m column size advance from) em ∙ ap (λ (k : ℕ). table_parts n k size advance from) place in
    let left : further ≡ has_further n (λ (r : Row). slice_index r (column_number (columns_in env source) key)) from =
    ef ∙ ap (λ (m : ℕ). has_further m (λ (r : Row). slice_index r column) from) em ∙ ap (λ (k : ℕ). has_further n (λ (r : Row). slice_index r k) from) place in
    let a = subst (λ (b : QueryShape). AreOverGroups b env named columns windows inside within) eb j in
    let b = subst (λ (v : List ℕ). AreOverGroups body env v columns windows inside within) ev a in
    let c = subst (λ (k : List Column). AreOverGroups body env var k windows inside within) ec b in
    let d = subst (λ (p : List Keyed). AreOverGroups body env var (columns_in env source) p inside within) whole c in
    let e = subst (λ (o : List Row). AreOverGroups body env var (columns_in env source) (table_parts n (column_number (columns_in env source) key) size advance from) o within) (sym eo) d in
    let shown : Group Row → Keyed = λ g. record { key = g.key; rows = g.rows } in
    let group = IsOverGroup body env var (columns_in env source) in
    let f = joined_map shown group (parts n (λ (r : Row). slice_index r (column_number (columns_in env source) key)) size advance from) out within e in
    record { rows = from; source_spill = before; parts_spill = within; of_source = is; of_parts = f; any = es ∙ ap (λ (x : Bool). before || within || x) left }

pub union_made : (env : Env) (l r : QueryShape) (left right out : List Row) (p q spill : Bool)
    → IsResultIn l env left p → IsResultIn r env right q → (out ≡ left ++ right) × (spill ≡ (p || q)) → IsResultIn (shape.Union l r) env out spill
union_made env l r left right out p q spill is is' (e, s) = record {
  left = left;
  right = right;
  left_spill = p;
  right_spill = q;
  of_left = is;
  of_right = is';
  join = subst (IsInterleaving left right) (sym e) (first_then_second left right);
  either = s;
}

pub concat_made : (env : Env) (l r : QueryShape) (left right out : List Row) (p q spill : Bool)
    → IsResultIn l env left p → IsResultIn r env right q → AreBeside left right out × (spill ≡ (p || q)) → IsResultIn (shape.Concat l r) env out spill
concat_made env l r left right out p q spill is is' (b, s) = record {
  left = left;
  right = right;
  left_spill = p;
  right_spill = q;
  of_left = is;
  of_right = is';
  join = b;
  either = s;
}

-- a union by arrival has its result with places, without them
pub arrived_made : (env : Env) (l r : QueryShape) (xs : List (Placed Row)) (out : List Row) (p spill : Bool)
    → ArrivesIn (shape.ByArrival l r) env xs p → (out ≡ rows_of xs) × (spill ≡ p) → IsResultIn (shape.ByArrival l r) env out spill
arrived_made env l r xs out p spill is (e, s) = record {
  rows = xs;
  of_source = subst (λ (b : Bool). IsByArrival (ArrivesIn l env) (ArrivesIn r env) xs b) (sym s) is;
  without = e;
}

-- so has an as-of join
pub as_of_made : (env : Env) (l r : QueryShape) (slots : SlotsShape) (xs : List (Placed Row)) (out : List Row) (p spill : Bool)
    → ArrivesIn (shape.AsOf l r slots) env xs p → (out ≡ rows_of xs) × (spill ≡ p) → IsResultIn (shape.AsOf l r slots) env out spill
as_of_made env l r slots xs out p spill is (e, s) = record {
  rows = xs;
  of_source = subst (λ (b : Bool). ArrivesIn (shape.AsOf l r slots) env xs b) (sym s) is;
  without = e;
}
