-- Rows at places as the code has them: their rows, a row more, and what selects make of them.
use Rattle.std.proofs.Common.{◌≡◌, ℕ, zero, suc, ◌+◌, ◌<◌, List, [], ◌∷◌, ◌++◌, Bool, true, false, length, take, get_or, refl, sym, ap, ◌∙◌, arith, append_assoc, append-nil}
use Rattle.std.specs.Prelude.{Option, None, Some, filter, if◌then◌else◌, map, option_map, option_to_list}
use Rattle.std.specs.List.{cons_option}
use Rattle.std.proofs.lemmas.List.{take-map}
use Rattle.std.proofs.lemmas.List.FromFn.{get_or-range_with_len}
use Rattle.gl_bits.proofs.AllLists.{all_of_mapped}
use Rattle.gl_values.specs.Results.{Row}
use Rattle.gl_frames.specs.Frames.{by_key, if_has_key}
use Rattle.gl_frames.proofs.LastLemmas.{ends_with}
use Rattle.gl_arrival.specs.Places.{Placed, at_place, at_places, rows_of}
use Rattle.gl_arrival.specs.Changes.{each_at, framed_at, framed_by_key_at, kept_at, mapped_at}
use Rattle.gl_schema.specs.Schemas.{IsRowOf}
use Rattle.gl_query.specs.Results.{Reach, picked}
use Rattle.gl_query.specs.Shapes.{PickShape}
use Rattle.gl_reference.specs.declared.columns.Clock.{Clock}
use Rattle.gl_reference.specs.declared.placed.PlacedRow.{PlacedRow}
use Rattle.gl_reference.specs.Arrivals.{picked_one, place_on, rows_in}
use Rattle.gl_reference.specs.Rows.{AreSeen}
use Rattle.gl_reference.specs.Sources.{placed_of, places_on}
use Rattle.gl_reference.proofs.Fitting.{all_place}
use Rattle.gl_reference.proofs.Joining.{map_taken}

-- ---- rows and their places

pub rows_of_placed : (xs : List PlacedRow) → rows_of (map placed_of xs) ≡ rows_in xs
rows_of_placed [] = refl
rows_of_placed (x ∷ xs) = ap (λ l. x.row ∷ l) (rows_of_placed xs)

-- one row more at its place
pub at_places_more : (xs : List Row) (ps : List ℕ) (i : ℕ) (x : Row) → i < length xs → x ≡ get_or xs i x → at_places (take (i + 1) xs) ps ≡ at_places (take i xs) ps ++ at_place x (get_or ps i 0) ∷ []
at_places_more [] ps i x lt is = absurd (omega (arith, lt))
at_places_more (y ∷ xs) [] zero x lt is = ap (λ z. at_place z 0 ∷ []) (sym is)
at_places_more (y ∷ xs) (p ∷ ps) zero x lt is = ap (λ z. at_place z p ∷ []) (sym is)
at_places_more (y ∷ xs) [] (suc i) x lt is =
    let next : suc i + 1 ≡ suc (i + 1) = omega arith in
    ap (λ n. at_places (take n (y ∷ xs)) []) next ∙ ap (λ l. at_place y 0 ∷ l) (at_places_more xs [] i x (omega (arith, lt)) is)
at_places_more (y ∷ xs) (p ∷ ps) (suc i) x lt is =
    let next : suc i + 1 ≡ suc (i + 1) = omega arith in
    ap (λ n. at_places (take n (y ∷ xs)) (p ∷ ps)) next ∙ ap (λ l. at_place y p ∷ l) (at_places_more xs ps i x (omega (arith, lt)) is)

pub place_is : (clock : Option Clock) (rows : List Row) (i : ℕ) → i < length rows → place_on clock i ≡ get_or (places_on clock rows) i 0
place_is None rows i lt =
    let e : 0 + i ≡ i = omega arith in
    sym (get_or-range_with_len 0 (length rows) i 0 lt ∙ e)
place_is (Some clock) rows i lt = refl

-- a row of rows that fit what expressions see fits it, with the words of the parameters behind it
pub placed_row_seen : (reach : Reach) (rows : List PlacedRow) (i : ℕ) (x : PlacedRow) → i < length rows → x ≡ get_or rows i x → AreSeen reach (rows_in rows)
    → IsRowOf reach.columns (x.row ++ reach.words)
placed_row_seen reach rows i x lt is s =
    let all = all_of_mapped (λ (row : Row). IsRowOf reach.columns (row ++ reach.words)) (λ (y : PlacedRow). y.row) rows s.fit in
    all_place (λ (y : PlacedRow). IsRowOf reach.columns (y.row ++ reach.words)) rows i x lt is all

-- ---- filters and picks

module _ (passes : Row → Bool) where
  abbrev left : List PlacedRow → List PlacedRow
  left xs = filter (λ (x : PlacedRow). passes x.row) xs

  pub placed_kept : (xs : List PlacedRow) → map placed_of (left xs) ≡ kept_at passes (map placed_of xs)
  placed_kept [] = refl
  placed_kept (x ∷ xs) = by (passes x.row) (placed_kept xs)
    where
      by : (b : Bool) → map placed_of (left xs) ≡ kept_at passes (map placed_of xs)
          → map placed_of (if b then x ∷ left xs else left xs) ≡ (if b then placed_of x ∷ kept_at passes (map placed_of xs) else kept_at passes (map placed_of xs))
      by true e = ap (λ l. placed_of x ∷ l) e
      by false e = e

  pub rows_left : (xs : List PlacedRow) → rows_in (left xs) ≡ filter passes (rows_in xs)
  rows_left [] = refl
  rows_left (x ∷ xs) = by (passes x.row) (rows_left xs)
    where
      by : (b : Bool) → rows_in (left xs) ≡ filter passes (rows_in xs)
          → rows_in (if b then x ∷ left xs else left xs) ≡ (if b then x.row ∷ filter passes (rows_in xs) else filter passes (rows_in xs))
      by true e = ap (λ l. x.row ∷ l) e
      by false e = e

pub placed_picked : (reach : Reach) (pick : PickShape) (xs : List PlacedRow) → map placed_of (map (picked_one reach pick) xs) ≡ mapped_at (picked reach pick) (map placed_of xs)
placed_picked reach pick [] = refl
placed_picked reach pick (x ∷ xs) = ap (λ l. at_place (picked reach pick x.row) x.place ∷ l) (placed_picked reach pick xs)

-- ---- frames, one row more

pub each_at_more : (f : List Row → Option Row) (seen : List Row) (xs : List (Placed Row)) (x : Placed Row)
    → each_at f seen (xs ++ x ∷ []) ≡ each_at f seen xs ++ option_to_list (option_map (λ (y : Row). at_place y x.place) (f ((seen ++ rows_of xs) ++ x.row ∷ [])))
each_at_more f seen [] x =
    alone (option_map (λ (y : Row). at_place y x.place) (f (seen ++ x.row ∷ [])))
    ∙ ap (λ (l : List Row). option_to_list (option_map (λ (y : Row). at_place y x.place) (f (l ++ x.row ∷ [])))) (sym (append-nil seen))
  where
    alone : (o : Option (Placed Row)) → cons_option o [] ≡ option_to_list o
    alone None = refl
    alone (Some y) = refl
each_at_more f seen (y ∷ xs) x =
    let own = option_map (λ (z : Row). at_place z y.place) (f (seen ++ y.row ∷ [])) in
    let later = each_at f (seen ++ y.row ∷ []) xs in
    ap (cons_option own)
    (each_at_more f (seen ++ y.row ∷ []) xs x
    ∙ ap (λ (l : List Row). later ++ option_to_list (option_map (λ (z : Row). at_place z x.place) (f (l ++ x.row ∷ [])))) (append_assoc seen (y.row ∷ []) (rows_of xs)))
    ∙ moved own later (option_to_list (option_map (λ (z : Row). at_place z x.place) (f ((seen ++ rows_of (y ∷ xs)) ++ x.row ∷ []))))
  where
    moved : (o : Option (Placed Row)) (ys zs : List (Placed Row)) → cons_option o (ys ++ zs) ≡ cons_option o ys ++ zs
    moved None ys zs = refl
    moved (Some z) ys zs = refl

pub seen_next : (rows : List PlacedRow) (i : ℕ) (x : PlacedRow) → i < length rows → x ≡ get_or rows i x → rows_of (map placed_of (take i rows)) ++ x.row ∷ [] ≡ take (i + 1) (rows_in rows)
seen_next rows i x lt is =
    ap (λ (l : List Row). l ++ x.row ∷ []) (rows_of_placed (take i rows)) ∙ sym (map_taken (λ (r : PlacedRow). r.row) rows i x lt is) ∙ sym (take-map (λ (r : PlacedRow). r.row) (i + 1) rows)

pub framed_at_next : (f : List Row → Row) (rows : List PlacedRow) (i : ℕ) (x : PlacedRow) → i < length rows → x ≡ get_or rows i x
    → framed_at f (map placed_of (take (i + 1) rows)) ≡ framed_at f (map placed_of (take i rows)) ++ at_place (f (take (i + 1) (rows_in rows))) x.place ∷ []
framed_at_next f rows i x lt is =
    ap (λ (l : List (Placed Row)). framed_at f l) (map_taken placed_of rows i x lt is)
    ∙ each_at_more (λ seen. Some (f seen)) [] (map placed_of (take i rows)) (placed_of x)
    ∙ ap (λ (l : List Row). framed_at f (map placed_of (take i rows)) ++ at_place (f l) x.place ∷ []) (seen_next rows i x lt is)

pub keyed_at_next : (n : ℕ) (key_of : Row → ℕ) (f : List Row → Row) (rows : List PlacedRow) (i : ℕ) (x : PlacedRow) → i < length rows → x ≡ get_or rows i x
    → framed_by_key_at n key_of f (map placed_of (take (i + 1) rows))
    ≡ framed_by_key_at n key_of f (map placed_of (take i rows)) ++ option_to_list (option_map (λ (y : Row). at_place y x.place) (if_has_key n key_of f (take (i + 1) (rows_in rows)) (Some x.row)))
keyed_at_next n key_of f rows i x lt is =
    let before = framed_by_key_at n key_of f (map placed_of (take i rows)) in
    let old = rows_of (map placed_of (take i rows)) in
    ap (λ (l : List (Placed Row)). framed_by_key_at n key_of f l) (map_taken placed_of rows i x lt is)
    ∙ each_at_more (by_key n key_of f) [] (map placed_of (take i rows)) (placed_of x)
    ∙ ap (λ (o : Option Row). before ++ option_to_list (option_map (λ (y : Row). at_place y x.place) (if_has_key n key_of f (old ++ x.row ∷ []) o))) (ends_with old x.row)
    ∙ ap (λ (l : List Row). before ++ option_to_list (option_map (λ (y : Row). at_place y x.place) (if_has_key n key_of f l (Some x.row)))) (seen_next rows i x lt is)
