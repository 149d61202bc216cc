-- Queries each of whose rows comes of one row that came: their results are those with places, without them.
use Rattle.std.proofs.Common.{◌≡◌, ℕ, List, [], Bool, Option, Some, None, map, refl, sym, ap, ◌∙◌, subst}
use Rattle.std.specs.Prelude.{◌||◌, bytes_eq, find, option_map, slice_index, unwrap_or, IsTrue}
use Rattle.gl_values.specs.Lists.{IsInterleaving, has_further}
use Rattle.gl_values.specs.Results.{IsOfBoth, Row}
use Rattle.gl_frames.specs.Frames.{by_key, each_of, framed, framed_by_key}
use Rattle.gl_arrival.specs.Places.{Placed, at_places}
use Rattle.gl_arrival.specs.Places as arrival
use Rattle.gl_arrival.specs.Changes.{framed_at, framed_by_key_at, kept_at, mapped_at}
use Rattle.gl_arrival.specs.Results.{HasOneArrival}
use Rattle.gl_arrival.proofs.ChangeLemmas.{rows_at_places, rows_each, rows_kept, rows_mapped}
use Rattle.gl_arrival.proofs.ResultLemmas.{is_of_union, one_arrival, one_by_arrival, one_changed, one_parted}
use Rattle.gl_asof.proofs.ResultLemmas.{one_as_of}
use Rattle.gl_query.specs.Columns.{arrives}
use Rattle.gl_query.specs.Laws.{ArrivalsAreResults}
use Rattle.gl_query.specs.Results.{ArrivesIn, Env, IsResultIn, IsWithoutPlaces, Source, columns_in, join_by, kept, picked, placed_rows_of, rows_of, Reach, is_kept, reach_in, reached_row}
use Rattle.gl_query.specs.Shapes.{ExprShape, FrameItemShape, PickShape, QueryShape}
use Rattle.gl_query.specs.Shapes as shape
use Rattle.gl_query.specs.Values.{column_number}

-- ---- rows without their places

rows_said : (o : Option Source) → arrival.rows_of (unwrap_or (option_map (λ (s : Source). at_places s.rows s.places) o) []) ≡ unwrap_or (option_map (λ (s : Source). s.rows) o) []
rows_said None = refl
rows_said (Some s) = rows_at_places s.rows s.places

pub rows_placed : (env : Env) (name : List ℕ) → arrival.rows_of (placed_rows_of env name) ≡ rows_of env name
rows_placed env name = rows_said (find (λ (s : Source). bytes_eq name s.stream.name) env)

rows_picked : (reach : Reach) (pick : PickShape) (filter : Option ExprShape) (xs : List (Placed Row))
    → arrival.rows_of (mapped_at (picked reach pick) (kept_at (is_kept reach filter) xs)) ≡ map (picked reach pick) (kept reach filter (arrival.rows_of xs))
rows_picked reach pick filter xs =
    rows_mapped (picked reach pick) (kept_at (is_kept reach filter) xs) ∙ ap (λ (l : List Row). map (picked reach pick) l) (rows_kept (is_kept reach filter) xs)

rows_framed : (reach : Reach) (items : List FrameItemShape) (filter : Option ExprShape) (xs : List (Placed Row))
    → arrival.rows_of (framed_at (reached_row reach items) (kept_at (is_kept reach filter) xs)) ≡ framed (reached_row reach items) (kept reach filter (arrival.rows_of xs))
rows_framed reach items filter xs =
    rows_each (λ seen. Some (reached_row reach items seen)) [] (kept_at (is_kept reach filter) xs)
    ∙ ap (λ (l : List Row). each_of (λ seen. Some (reached_row reach items seen)) [] l) (rows_kept (is_kept reach filter) xs)

rows_parted : (reach : Reach) (items : List FrameItemShape) (filter : Option ExprShape) (n : ℕ) (key_of : Row → ℕ) (xs : List (Placed Row))
    → arrival.rows_of (framed_by_key_at n key_of (reached_row reach items) (kept_at (is_kept reach filter) xs))
    ≡ framed_by_key n key_of (reached_row reach items) (kept reach filter (arrival.rows_of xs))
rows_parted reach items filter n key_of xs =
    rows_each (by_key n key_of (reached_row reach items)) [] (kept_at (is_kept reach filter) xs)
    ∙ ap (λ (l : List Row). each_of (by_key n key_of (reached_row reach items)) [] l) (rows_kept (is_kept reach filter) xs)

-- ---- from results with places to results

pub arrived : (q : QueryShape) (env : Env) (xs : List (Placed Row)) (spill : Bool) → ArrivesIn q env xs spill → IsResultIn q env (arrival.rows_of xs) spill
arrived (shape.Read name) env xs spill a =
    record { rows = ap (λ (l : List (Placed Row)). arrival.rows_of l) a.rows ∙ rows_placed env name; kept = a.kept }
arrived (shape.Rows pick filter source) env xs spill a = record {
  rows = arrival.rows_of a.rows;
  of_source = arrived source env a.rows spill a.of_source;
  changed = ap (λ (l : List (Placed Row)). arrival.rows_of l) a.changed ∙ rows_picked (reach_in env source) pick filter a.rows;
}
arrived (shape.Total aggs source) env xs spill a = absurd a
arrived (shape.Frames items filter None source) env xs spill a = record {
  rows = arrival.rows_of a.rows;
  of_source = arrived source env a.rows spill a.of_source;
  changed = ap (λ (l : List (Placed Row)). arrival.rows_of l) a.changed ∙ rows_framed (reach_in env source) items filter a.rows;
}
arrived (shape.Frames items filter (Some s) source) env xs spill a = record {
  rows = arrival.rows_of a.rows;
  source_spill = a.source_spill;
  of_source = arrived source env a.rows a.source_spill a.of_source;
  changed =
      ap (λ (l : List (Placed Row)). arrival.rows_of l) a.changed
      ∙ rows_parted (reach_in env source) items filter s.groups (λ row. slice_index row (column_number (columns_in env source) s.key)) a.rows;
  any = a.any;
}
arrived (shape.Each measure var source size advance body) env xs spill a = absurd a
arrived (shape.PerGroup var source key n body) env xs spill a = absurd a
arrived (shape.Partition var source key n size advance body) env xs spill a = absurd a
arrived (shape.Union l r) env xs spill a = absurd a
arrived (shape.ByArrival l r) env xs spill a = record { rows = xs; of_source = a; without = refl }
arrived (shape.AsOf l r slots) env xs spill a = record { rows = xs; of_source = a; without = refl }
arrived (shape.Concat l r) env xs spill a = absurd a

pub without_places : (q : QueryShape) (env : Env) (out : List Row) (spill : Bool) → IsWithoutPlaces (ArrivesIn q env) out spill → IsResultIn q env out spill
without_places q env out spill w = subst (λ (l : List Row). IsResultIn q env l spill) (sym w.without) (arrived q env w.rows spill w.of_source)

-- ---- and back

pub with_places : (q : QueryShape) → IsTrue (arrives q) → (env : Env) (out : List Row) (spill : Bool) → IsResultIn q env out spill → IsWithoutPlaces (ArrivesIn q env) out spill
with_places (shape.Read name) t env out spill r =
    record { rows = placed_rows_of env name; of_source = record { rows = refl; kept = r.kept }; without = r.rows ∙ sym (rows_placed env name) }
with_places (shape.Rows pick filter source) t env out spill r =
    let reach = reach_in env source in
    let w = with_places source t env r.rows spill r.of_source in
    record {
      rows = mapped_at (picked reach pick) (kept_at (is_kept reach filter) w.rows);
      of_source = record { rows = w.rows; of_source = w.of_source; changed = refl };
      without =
          r.changed ∙ ap (λ (l : List Row). map (picked reach pick) (kept reach filter l)) w.without
          ∙ sym (rows_picked reach pick filter w.rows);
    }
with_places (shape.Total aggs source) t env out spill r = absurd (cc)
with_places (shape.Frames items filter None source) t env out spill r =
    let reach = reach_in env source in
    let w = with_places source t env r.rows spill r.of_source in
    record {
      rows = framed_at (reached_row reach items) (kept_at (is_kept reach filter) w.rows);
      of_source = record { rows = w.rows; of_source = w.of_source; changed = refl };
      without =
          r.changed ∙ ap (λ (l : List Row). framed (reached_row reach items) (kept reach filter l)) w.without
          ∙ sym (rows_framed reach items filter w.rows);
    }
with_places (shape.Frames items filter (Some s) source) t env out spill r =
    let reach = reach_in env source in
    let key_of : Row → ℕ = λ row. slice_index row (column_number (columns_in env source) s.key) in
    let w = with_places source t env r.rows r.source_spill r.of_source in
    record {
      rows = framed_by_key_at s.groups key_of (reached_row reach items) (kept_at (is_kept reach filter) w.rows);
      of_source = record {
        rows = w.rows;
        source_spill = r.source_spill;
        of_source = w.of_source;
        changed = refl;
        any = r.any ∙ ap (λ (l : List Row). r.source_spill || has_further s.groups key_of (kept reach filter l)) w.without;
      };
      without =
          r.changed ∙ ap (λ (l : List Row). framed_by_key s.groups key_of (reached_row reach items) (kept reach filter l)) w.without
          ∙ sym (rows_parted reach items filter s.groups key_of w.rows);
    }
with_places (shape.Each measure var source size advance body) t env out spill r = absurd (cc)
with_places (shape.PerGroup var source key n body) t env out spill r = absurd (cc)
with_places (shape.Partition var source key n size advance body) t env out spill r = absurd (cc)
with_places (shape.Union l r') t env out spill r = absurd (cc)
with_places (shape.ByArrival l r') t env out spill r = r
with_places (shape.AsOf l r' slots) t env out spill r = r
with_places (shape.Concat l r') t env out spill r = absurd (cc)

pub arrivals : ArrivalsAreResults
arrivals q t env out spill = (with_places q t env out spill, without_places q env out spill)

-- ---- unions by arrival

-- a result of a union by arrival is one of UNION
pub as_union : (l r : QueryShape) (env : Env) (out : List Row) (spill : Bool) → IsResultIn (shape.ByArrival l r) env out spill
    → IsOfBoth (IsResultIn l env) (IsResultIn r env) IsInterleaving out spill
as_union l r env out spill is =
    let u = is_of_union (ArrivesIn l env) (ArrivesIn r env) out spill is in
    record {
      left = u.left;
      right = u.right;
      left_spill = u.left_spill;
      right_spill = u.right_spill;
      of_left = without_places l env u.left u.left_spill u.of_left;
      of_right = without_places r env u.right u.right_spill u.of_right;
      join = u.join;
      either = u.either;
    }

-- a query has one result with places at most
pub one_in_place : (q : QueryShape) (env : Env) → HasOneArrival (ArrivesIn q env)
one_in_place (shape.Read name) env = one_arrival (placed_rows_of env name)
one_in_place (shape.Rows pick filter source) env = one_changed (ArrivesIn source env) _ (one_in_place source env)
one_in_place (shape.Total aggs source) env = λ out out' spill spill' a b. absurd a
one_in_place (shape.Frames items filter None source) env = one_changed (ArrivesIn source env) _ (one_in_place source env)
one_in_place (shape.Frames items filter (Some s) source) env = one_parted (ArrivesIn source env) _ _ (one_in_place source env)
one_in_place (shape.Each measure var source size advance body) env = λ out out' spill spill' a b. absurd a
one_in_place (shape.PerGroup var source key n body) env = λ out out' spill spill' a b. absurd a
one_in_place (shape.Partition var source key n size advance body) env = λ out out' spill spill' a b. absurd a
one_in_place (shape.Union l r) env = λ out out' spill spill' a b. absurd a
one_in_place (shape.ByArrival l r) env = one_by_arrival (ArrivesIn l env) (ArrivesIn r env) (one_in_place l env) (one_in_place r env)
one_in_place (shape.AsOf l r slots) env =
    one_as_of (join_by (columns_in env l) (columns_in env r) slots) (ArrivesIn l env) (ArrivesIn r env) (one_in_place l env) (one_in_place r env)
one_in_place (shape.Concat l r) env = λ out out' spill spill' a b. absurd a
