-- Where no row of a source stands behind one at a later place, none of a result does; so ASOF goes row for row.
use Rattle.std.proofs.Common.{◌≡◌, ℕ, ◌+◌, ◌≤◌, suc, zero, List, [], ◌∷◌, Bool, Some, None, length, sym, subst, ◌∙◌, arith}
use Rattle.std.specs.Prelude.{bytes_eq, slice_index}
use Rattle.std.specs.List.{AllByRecursion, range_with_len}
use Rattle.std.proofs.lemmas.List.FromFn.{length-range_with_len}
use Rattle.gl_bits.proofs.Bools.{by_cases}
use Rattle.gl_values.specs.Results.{Row}
use Rattle.gl_frames.specs.Frames.{by_key}
use Rattle.gl_arrival.specs.Places.{IsNoLater, NeverFall, Placed, at_place, at_places}
use Rattle.gl_arrival.specs.Changes.{kept_at}
use Rattle.gl_arrival.proofs.ChangeLemmas.{each_never_falls, kept_never_falls, mapped_never_falls}
use Rattle.gl_arrival.proofs.OrderLemmas.{never_falls}
use Rattle.gl_asof.proofs.PlaceLemmas.{as_of_never_falls}
use Rattle.gl_asof.proofs.SentenceLemmas.{is_the_sentence}
use Rattle.gl_schema.specs.declared.schema.Column.{Column}
use Rattle.gl_schema.specs.declared.schema.Stream.{Stream}
use Rattle.gl_schema.specs.Beats.{HavePlaces, Inputs}
use Rattle.gl_schema.specs.Beats as beats
use Rattle.gl_query.specs.Columns.{colon, parameters_in}
use Rattle.gl_query.specs.Laws.{ArrivalsNeverFall, AsOfIsRowForRow, PlacesNeverFall, SourcesNeverFall}
use Rattle.gl_query.specs.Results.{ArrivesIn, Env, columns_in, is_kept, join_by, numbered, parameter_source, picked, placed_rows_of, reach_in, reached_row, streams_of, variable_source, words_in}
use Rattle.gl_query.specs.Shapes.{QueryShape}
use Rattle.gl_query.specs.Shapes as shape
use Rattle.gl_query.specs.Values.{column_number}

-- ---- sources

none_before : (x : Row) (p : ℕ) (rows : List Row) (places : List ℕ) → length places ≡ length rows → AllByRecursion (λ s. p ≤ s) places
    → AllByRecursion (IsNoLater (at_place x p)) (at_places rows places)
none_before x p [] places e h = tt
none_before x p (row ∷ rows) [] e h = absurd (cc)
none_before x p (row ∷ rows) (q ∷ places) e h = let less : length places ≡ length rows = cc in (h.0, none_before x p rows places less h.1)

at_places_never_fall : (rows : List Row) (places : List ℕ) → length places ≡ length rows → beats.NeverFall places → NeverFall (at_places rows places)
at_places_never_fall [] places e h = tt
at_places_never_fall (row ∷ rows) [] e h = absurd (cc)
at_places_never_fall (row ∷ rows) (p ∷ places) e h =
    let less : length places ≡ length rows = cc in (none_before row p rows places less h.0, at_places_never_fall rows places less h.1)

numbered_never_fall : (k : ℕ) (streams : List Stream) (inputs : Inputs) → HavePlaces inputs → (name : List ℕ)
    → NeverFall (placed_rows_of (numbered k streams inputs) name)
numbered_never_fall k [] inputs h name = tt
numbered_never_fall k (s ∷ streams) inputs h name =
    by_cases (bytes_eq name s.name) (λ e. rw e (at_places_never_fall (inputs.rows k) (inputs.places k) (h.each k) (h.order k)))
    (λ e. rw e (numbered_never_fall (k + 1) streams inputs h name))

counted_from : (p a n : ℕ) → p ≤ a → AllByRecursion (λ s. p ≤ s) (range_with_len a n)
counted_from p a zero le = tt
counted_from p a (suc n) le = (le, counted_from p (a + 1) n (omega (arith, le)))

counting_never_falls : (a n : ℕ) → beats.NeverFall (range_with_len a n)
counting_never_falls a zero = tt
counting_never_falls a (suc n) = (counted_from a (a + 1) n (omega arith), counting_never_falls (a + 1) n)

variable_never_falls : (var : List ℕ) (columns : List Column) (rows : List Row) → PlacesNeverFall (variable_source var columns rows ∷ [])
variable_never_falls var columns rows name =
    by_cases (bytes_eq name var)
    (λ e. rw e (at_places_never_fall rows (range_with_len 0 (length rows)) (length-range_with_len 0 (length rows)) (counting_never_falls 0 (length rows))))
    (λ e. rw e tt)

-- the one row of the parameters stands before none
words_never_fall : (parameters : List Column) (words : Row) (env : Env) → PlacesNeverFall env → PlacesNeverFall (parameter_source parameters words ∷ env)
words_never_fall parameters words env h name = by_cases (bytes_eq name colon) (λ e. rw e (tt, tt)) (λ e. rw e (h name))

pub sources_never_fall : SourcesNeverFall
sources_never_fall = record {
  of_streams = λ schema inputs h.
      words_never_fall schema.parameters inputs.sets (numbered 0 schema.streams inputs) (numbered_never_fall 0 schema.streams inputs h);
  of_bodies = λ env var columns rows.
      words_never_fall (parameters_in (streams_of env)) (words_in env) (variable_source var columns rows ∷ []) (variable_never_falls var columns rows);
}

-- ---- results

same_places : (xs ys : List (Placed Row)) → ys ≡ xs → NeverFall xs → NeverFall ys
same_places xs ys e h = subst (λ (l : List (Placed Row)). NeverFall l) (sym e) h

pub arrivals_never_fall : (q : QueryShape) (env : Env) (out : List (Placed Row)) (spill : Bool) → PlacesNeverFall env → ArrivesIn q env out spill → NeverFall out
arrivals_never_fall (shape.Read name) env out spill h a = same_places (placed_rows_of env name) out a.rows (h name)
arrivals_never_fall (shape.Rows pick filter source) env out spill h a =
    let reach = reach_in env source in
    let keep = is_kept reach filter in
    let rising = arrivals_never_fall source env a.rows spill h a.of_source in
    same_places _ out a.changed
    (mapped_never_falls (picked reach pick) (kept_at keep a.rows) (kept_never_falls keep a.rows rising))
arrivals_never_fall (shape.Total aggs source) env out spill h a = absurd a
arrivals_never_fall (shape.Frames items filter None source) env out spill h a =
    let reach = reach_in env source in
    let keep = is_kept reach filter in
    let rising = arrivals_never_fall source env a.rows spill h a.of_source in
    same_places _ out a.changed
    (each_never_falls (λ seen. Some (reached_row reach items seen)) [] (kept_at keep a.rows) (kept_never_falls keep a.rows rising))
arrivals_never_fall (shape.Frames items filter (Some s) source) env out spill h a =
    let reach = reach_in env source in
    let keep = is_kept reach filter in
    let key_of : Row → ℕ = λ row. slice_index row (column_number (columns_in env source) s.key) in
    let rising = arrivals_never_fall source env a.rows a.source_spill h a.of_source in
    same_places _ out a.changed
    (each_never_falls (by_key s.groups key_of (reached_row reach items)) [] (kept_at keep a.rows) (kept_never_falls keep a.rows rising))
arrivals_never_fall (shape.Each measure var source size advance body) env out spill h a = absurd a
arrivals_never_fall (shape.PerGroup var source key n body) env out spill h a = absurd a
arrivals_never_fall (shape.Partition var source key n size advance body) env out spill h a = absurd a
arrivals_never_fall (shape.Union l r) env out spill h a = absurd a
arrivals_never_fall (shape.ByArrival l r) env out spill h a =
    same_places _ out a.in_order
    (never_falls a.left a.right (arrivals_never_fall l env a.left a.left_spill h a.of_left) (arrivals_never_fall r env a.right a.right_spill h a.of_right))
arrivals_never_fall (shape.AsOf l r slots) env out spill h a =
    same_places _ out a.joined
    (as_of_never_falls (join_by (columns_in env l) (columns_in env r) slots) a.left a.right (arrivals_never_fall l env a.left a.left_spill h a.of_left)
    (arrivals_never_fall r env a.right a.right_spill h a.of_right))
arrivals_never_fall (shape.Concat l r) env out spill h a = absurd a

pub never_falling : ArrivalsNeverFall
never_falling = arrivals_never_fall

pub row_for_row : AsOfIsRowForRow
row_for_row l r slots env out spill h a = record {
  left = a.left;
  right = a.right;
  left_spill = a.left_spill;
  right_spill = a.right_spill;
  of_left = a.of_left;
  of_right = a.of_right;
  rows =
      a.joined
      ∙ is_the_sentence (join_by (columns_in env l) (columns_in env r) slots) a.left a.right (arrivals_never_fall l env a.left a.left_spill h a.of_left)
      (arrivals_never_fall r env a.right a.right_spill h a.of_right);
}
