-- Rows of both sides of an as-of join behind their marks: what the code makes of them is what the join makes of the rows.
use Rattle.std.proofs.Common.{◌≡◌, ℕ, zero, suc, ◌+◌, ◌<◌, ◌≤◌, List, [], ◌∷◌, ◌++◌, Bool, true, false, length, take, get_or, refl, sym, ap, ◌∙◌, arith, eq-eqb}
use Rattle.std.specs.Prelude.{◌||◌, Option, None, Some, drop, filter, if◌then◌else◌, map, nat_eq, not, option_and_then, option_map, option_to_list, remove, reverse, slice_get, slice_index, unwrap_or}
use Rattle.std.specs.List.{cons_option, list_any}
use Rattle.std.proofs.lemmas.List.{map-append, reverse-append}
use Rattle.std.proofs.lemmas.List.Elements.{filter-append}
use Rattle.gl_bits.proofs.Bools.{by_cases}
use Rattle.gl_values.specs.Lists.{distinct, has_further, rows_with}
use Rattle.gl_values.specs.Partitions.{has_key}
use Rattle.gl_values.specs.Results.{Row}
use Rattle.gl_frames.specs.Frames.{by_key, if_has_key, row_before}
use Rattle.gl_frames.proofs.LastLemmas.{ends_with}
use Rattle.gl_arrival.specs.Arrival.{by_arrival}
use Rattle.gl_arrival.specs.Changes.{each_at, mapped_at}
use Rattle.gl_arrival.specs.Places.{Placed, at_place, rows_of}
use Rattle.gl_arrival.proofs.ChangeLemmas.{rows_mapped}
use Rattle.gl_arrival.proofs.SideLemmas.{by_arrival_of_mapped}
use Rattle.gl_asof.specs.AsOf.{JoinBy, OfEither, of_left, of_right, as_of, both_sides, joined, joined_last, key_of_either, last_right, more_keys, rights_in}
use Rattle.gl_asof.proofs.EachLemmas.{each_stepped}
use Rattle.gl_schema.specs.declared.schema.Column.{Column}
use Rattle.gl_query.specs.Results.{beside_last, join_by}
use Rattle.gl_query.specs.Shapes.{SlotsShape}
use Rattle.gl_query.specs.Values.{column_number}
use Rattle.gl_query.proofs.Without.{nothing_there}
use Rattle.gl_reference.specs.declared.placed.PlacedRow.{PlacedRow}
use Rattle.gl_reference.specs.Arrivals.{rows_in}
use Rattle.gl_reference.specs.Sides.{join_row, last_joined, last_of_right, marked, marked_row, of_key, row_joined, zeros_of}
use Rattle.gl_reference.specs.Sources.{placed_of}
use Rattle.gl_reference.proofs.Joining.{map_taken}
use Rattle.gl_reference.proofs.Placing.{each_at_more, rows_of_placed, seen_next}

-- ---- a row without the number at a place

pub all_but_one : (row : List ℕ) (at : ℕ) → take at row ++ drop (at + 1) row ≡ remove row at
all_but_one row at = let next : at + 1 ≡ suc at = omega arith in ap (λ (n : ℕ). take at row ++ drop n row) next

pub none_but_one : (row : List ℕ) (at : ℕ) → length row ≤ at → row ≡ remove row at
none_but_one row at h = sym (nothing_there row at h)

zeros_but : (columns : List Column) (i : ℕ) → zeros_of (remove columns i) ≡ remove (zeros_of columns) i
zeros_but [] zero = refl
zeros_but [] (suc i) = refl
zeros_but (c ∷ columns) zero = refl
zeros_but (c ∷ columns) (suc i) = ap (λ (l : List ℕ). 0 ∷ l) (zeros_but columns i)

-- ---- one row more

pub joined_at_next : (zeros : Row) (column n : ℕ) (rows : List PlacedRow) (i : ℕ) (x : PlacedRow) → i < length rows → x ≡ get_or rows i x
    → each_at (join_row zeros column n) [] (map placed_of (take (i + 1) rows))
    ≡ each_at (join_row zeros column n) [] (map placed_of (take i rows)) ++ option_to_list (option_map (λ (y : Row). at_place y x.place) (row_joined zeros column n (take (i + 1) (rows_in rows)) x.row))
joined_at_next zeros column n rows i x lt is =
    let before = each_at (join_row zeros column n) [] (map placed_of (take i rows)) in
    let old = rows_of (map placed_of (take i rows)) in
    ap (λ (l : List (Placed Row)). each_at (join_row zeros column n) [] l) (map_taken placed_of rows i x lt is)
    ∙ each_at_more (join_row zeros column n) [] (map placed_of (take i rows)) (placed_of x)
    ∙ ap (λ (o : Option Row). before ++ option_to_list (option_map (λ (y : Row). at_place y x.place) (last_joined zeros column n (old ++ x.row ∷ []) o))) (ends_with old x.row)
    ∙ ap (λ (l : List Row). before ++ option_to_list (option_map (λ (y : Row). at_place y x.place) (row_joined zeros column n l x.row))) (seen_next rows i x lt is)

-- ---- rows that are made of others, one of each

module _ {A B : Type 0} (w : A → B) where
  -- two tests that agree
  module _ (p : B → Bool) (q : A → Bool) (same : (x : A) → p (w x) ≡ q x) where
    filter_mapped : (xs : List A) → filter p (map w xs) ≡ map w (filter q xs)
    filter_mapped [] = refl
    filter_mapped (x ∷ xs) =
        let here = same x in
        let rest = filter_mapped xs in
        by_cases (q x) (λ e. rw (here, e) (ap (λ (l : List B). w x ∷ l) rest)) (λ e. rw (here, e) rest)

  -- two keys that are one
  module _ (k : B → ℕ) (key_of : A → ℕ) (alike : (x : A) → k (w x) ≡ key_of x) where
    keys_mapped : (xs : List A) → map k (map w xs) ≡ map key_of xs
    keys_mapped [] = refl
    keys_mapped (x ∷ xs) = λ i. alike x i ∷ keys_mapped xs i

    key_mapped : (n key : ℕ) (xs : List A) → has_key n k (map w xs) key ≡ has_key n key_of xs key
    key_mapped n key xs = ap (λ (ks : List ℕ). list_any (nat_eq key) (take n (distinct ks))) (keys_mapped xs)

    with_mapped : (key : ℕ) (xs : List A) → rows_with k (map w xs) key ≡ map w (rows_with key_of xs key)
    with_mapped key xs = filter_mapped (λ y. nat_eq (k y) key) (λ x. nat_eq (key_of x) key) (λ x. ap (λ (m : ℕ). nat_eq m key) (alike x)) xs

    further_in : (ks : List ℕ) (xs : List A)
        → list_any (λ y. not (list_any (nat_eq (k y)) ks)) (map w xs) ≡ list_any (λ x. not (list_any (nat_eq (key_of x)) ks)) xs
    further_in ks [] = refl
    further_in ks (x ∷ xs) = λ i. not (list_any (nat_eq (alike x i)) ks) || further_in ks xs i

    further_mapped : (n : ℕ) (xs : List A) → has_further n k (map w xs) ≡ has_further n key_of xs
    unfolding has_further
    further_mapped n xs =
        ap (λ (ks : List ℕ). list_any (λ y. not (list_any (nat_eq (k y)) (take n (distinct ks)))) (map w xs)) (keys_mapped xs)
        ∙ further_in (take n (distinct (map key_of xs))) xs

-- the last of some rows, with one more in front
first_behind : {A : Type 0} (x : A) (xs : List A) → row_before 0 (x ∷ xs) ≡ Some (unwrap_or (row_before 0 xs) x)
first_behind {A = A} x xs = ap (λ (l : List A). slice_get l 0) (reverse-append (x ∷ []) xs) ∙ front (reverse xs)
  where
    front : (ys : List A) → slice_get (ys ++ x ∷ []) 0 ≡ Some (unwrap_or (slice_get ys 0) x)
    front [] = refl
    front (y ∷ ys) = refl

-- ---- the join

module _ (lefts rights : List Column) (slots : SlotsShape) where
  abbrev by : JoinBy Row Row Row
  by = join_by lefts rights slots

  abbrev key_of : OfEither Row Row → ℕ
  key_of = key_of_either by

  abbrev column : ℕ
  column = column_number rights slots.key

  -- what the code makes of the rows up to a row
  abbrev made : List Row → Option Row
  made = join_row (zeros_of rights) column slots.groups

  -- a row of either side behind its marks
  abbrev mark : OfEither Row Row → Row
  mark (of_left a) = marked_row 1 (column_number lefts slots.key) a
  mark (of_right b) = marked_row 0 (column_number rights slots.key) b

  key_marked : (z : OfEither Row Row) → slice_index (mark z) 0 ≡ key_of_either by z
  key_marked (of_left a) = refl
  key_marked (of_right b) = refl

  placed_lefts : (xs : List PlacedRow) → map placed_of (map (marked 1 (column_number lefts slots.key)) xs) ≡ mapped_at mark (mapped_at of_left (map placed_of xs))
  placed_lefts [] = refl
  placed_lefts (x ∷ xs) = ap (λ (l : List (Placed Row)). at_place (mark (of_left x.row)) x.place ∷ l) (placed_lefts xs)

  placed_rights : (ys : List PlacedRow) → map placed_of (map (marked 0 column) ys) ≡ mapped_at mark (mapped_at of_right (map placed_of ys))
  placed_rights [] = refl
  placed_rights (y ∷ ys) = ap (λ (l : List (Placed Row)). at_place (mark (of_right y.row)) y.place ∷ l) (placed_rights ys)

  -- rows of both sides behind their marks, by their places
  abbrev AreBoth : List PlacedRow → List PlacedRow → List PlacedRow → Type 0
  AreBoth xs ys zs = map placed_of zs ≡ by_arrival (map placed_of (map (marked 0 column) ys)) (map placed_of (map (marked 1 (column_number lefts slots.key)) xs))

  placed_both : (xs ys zs : List PlacedRow) → AreBoth xs ys zs → map placed_of zs ≡ mapped_at mark (both_sides (map placed_of xs) (map placed_of ys))
  placed_both xs ys zs e =
      e ∙ (λ i. by_arrival (placed_rights ys i) (placed_lefts xs i))
      ∙ by_arrival_of_mapped mark (mapped_at of_right (map placed_of ys)) (mapped_at of_left (map placed_of xs))

  -- ---- the last row of the right side

  last_marked : (before : Row) (zs : List (OfEither Row Row)) → last_of_right before (map mark zs) ≡ unwrap_or (last_right zs) before
  last_marked before [] = refl
  last_marked before (of_left a ∷ zs) = last_marked before zs
  last_marked before (of_right b ∷ zs) =
      last_marked b zs ∙ ap (λ (o : Option Row). unwrap_or o before) (sym (first_behind b (rights_in zs)))

  beside_is : (a : Row) (o : Option Row) → a ++ remove (unwrap_or o (zeros_of rights)) column ≡ beside_last rights slots.key a o
  beside_is a None = ap (λ (l : List ℕ). a ++ l) (sym (zeros_but rights column))
  beside_is a (Some b) = refl

  -- ---- one row

  abbrev of_seen : List (OfEither Row Row) → Option Row
  of_seen l = option_and_then (λ (p : Option Row). p) (by_key by.groups (key_of_either by) (joined by) l)

  own_behind : (seen : List (OfEither Row Row)) (z : OfEither Row Row)
      → rows_with key_of (seen ++ z ∷ []) (key_of_either by z) ≡ rows_with key_of seen (key_of_either by z) ++ z ∷ []
  own_behind seen z =
      filter-append (λ x. nat_eq (key_of_either by x) (key_of_either by z)) seen (z ∷ [])
      ∙ ap (λ (b : Bool). rows_with key_of seen (key_of_either by z) ++ (if b then z ∷ [] else [])) (eq-eqb (key_of_either by z) (key_of_either by z) refl)

  of_last : (seen : List (OfEither Row Row)) (z : OfEither Row Row)
      → of_seen (seen ++ z ∷ []) ≡ (if has_key by.groups key_of (seen ++ z ∷ []) (key_of_either by z) then joined by (rows_with key_of (seen ++ z ∷ []) (key_of_either by z)) else None)
  of_last seen z =
      ap (λ (o : Option (OfEither Row Row)). option_and_then (λ (p : Option Row). p) (if_has_key by.groups (key_of_either by) (joined by) (seen ++ z ∷ []) o)) (ends_with seen z)
      ∙ split (has_key by.groups key_of (seen ++ z ∷ []) (key_of_either by z))
    where
      split : (b : Bool) → option_and_then (λ (p : Option Row). p) (if b then Some (joined by (rows_with key_of (seen ++ z ∷ []) (key_of_either by z))) else None)
          ≡ (if b then joined by (rows_with key_of (seen ++ z ∷ []) (key_of_either by z)) else None)
      split true = refl
      split false = refl

  joined_left : (zs : List (OfEither Row Row)) (a : Row) → joined by (zs ++ of_left a ∷ []) ≡ Some (by.join a (last_right (zs ++ of_left a ∷ [])))
  joined_left zs a = ap (joined_last by (last_right (zs ++ of_left a ∷ []))) (ends_with zs (of_left a))

  joined_right : (zs : List (OfEither Row Row)) (b : Row) → joined by (zs ++ of_right b ∷ []) ≡ None
  joined_right zs b = ap (joined_last by (last_right (zs ++ of_right b ∷ []))) (ends_with zs (of_right b))

  of_marked : (seen : List (OfEither Row Row)) (z : OfEither Row Row)
      → made (map mark (seen ++ z ∷ [])) ≡ row_joined (zeros_of rights) column slots.groups (map mark (seen ++ z ∷ [])) (mark z)
  of_marked seen z =
      ap (λ (l : List Row). last_joined (zeros_of rights) column slots.groups (map mark (seen ++ z ∷ [])) (row_before 0 l)) (map-append mark seen (z ∷ []))
      ∙ ap (last_joined (zeros_of rights) column slots.groups (map mark (seen ++ z ∷ []))) (ends_with (map mark seen) (mark z))

  of_a_right : (seen : List (OfEither Row Row)) (b : Row) → of_seen (seen ++ of_right b ∷ []) ≡ None
  of_a_right seen b = of_last seen (of_right b) ∙ split (has_key by.groups key_of (seen ++ of_right b ∷ []) (by.right_key b))
    where
      split : (t : Bool) → (if t then joined by (rows_with key_of (seen ++ of_right b ∷ []) (by.right_key b)) else None) ≡ None
      split true = ap (joined by) (own_behind seen (of_right b)) ∙ joined_right (rows_with key_of seen (by.right_key b)) b
      split false = refl

  of_a_left : (seen : List (OfEither Row Row)) (a : Row)
      → row_joined (zeros_of rights) column slots.groups (map mark (seen ++ of_left a ∷ [])) (mark (of_left a)) ≡ of_seen (seen ++ of_left a ∷ [])
  of_a_left seen a =
      ap (λ (b : Bool). if b then Some (a ++ remove (last_of_right (zeros_of rights) (of_key (map mark all) (by.left_key a))) column) else None)
      (key_mapped mark (λ r. slice_index r 0) key_of key_marked slots.groups (by.left_key a) all)
      ∙ split (has_key by.groups key_of all (by.left_key a)) ∙ sym (of_last seen (of_left a))
    where
      all : List (OfEither Row Row)
      all = seen ++ of_left a ∷ []

      own : List (OfEither Row Row)
      own = rows_with key_of all (by.left_key a)

      is_own : joined by own ≡ Some (by.join a (last_right own))
      is_own =
          ap (joined by) (own_behind seen (of_left a)) ∙ joined_left (rows_with key_of seen (by.left_key a)) a
          ∙ ap (λ (l : List (OfEither Row Row)). Some (by.join a (last_right l))) (sym (own_behind seen (of_left a)))

      split : (t : Bool) → (if t then Some (a ++ remove (last_of_right (zeros_of rights) (of_key (map mark all) (by.left_key a))) column) else None)
          ≡ (if t then joined by own else None)
      split true =
          ap (λ (l : List Row). Some (a ++ remove (last_of_right (zeros_of rights) l) column)) (with_mapped mark (λ r. slice_index r 0) key_of key_marked (by.left_key a) all)
          ∙ ap (λ (l : Row). Some (a ++ remove l column)) (last_marked (zeros_of rights) own)
          ∙ ap Some (beside_is a (last_right own)) ∙ sym is_own
      split false = refl

  one_more : (seen : List (OfEither Row Row)) (z : OfEither Row Row) → made (map mark (seen ++ z ∷ [])) ≡ of_seen (seen ++ z ∷ [])
  one_more seen (of_left a) = of_marked seen (of_left a) ∙ of_a_left seen a
  one_more seen (of_right b) = of_marked seen (of_right b) ∙ sym (of_a_right seen b)

  each_marked : (seen : List (OfEither Row Row)) (zs : List (Placed (OfEither Row Row))) → each_at made (map mark seen) (mapped_at mark zs) ≡ each_at of_seen seen zs
  each_marked seen [] = refl
  each_marked seen (z ∷ zs) =
      let wider : map mark seen ++ mark z.row ∷ [] ≡ map mark (seen ++ z.row ∷ []) = sym (map-append mark seen (z.row ∷ [])) in
      let here = one_more seen z.row in
      let rest = each_marked (seen ++ z.row ∷ []) zs in
      (λ i. cons_option (option_map (λ (y : Row). at_place y z.place) (made (wider i))) (each_at made (wider i) (mapped_at mark zs)))
      ∙ (λ i. cons_option (option_map (λ (y : Row). at_place y z.place) (here i)) (rest i))

  -- ---- all rows

  pub joined_is : (xs ys zs : List PlacedRow) → AreBoth xs ys zs → each_at made [] (map placed_of zs) ≡ as_of by (map placed_of xs) (map placed_of ys)
  joined_is xs ys zs e =
      let both = both_sides (map placed_of xs) (map placed_of ys) in
      ap (λ (l : List (Placed Row)). each_at made [] l) (placed_both xs ys zs e) ∙ each_marked [] both
      ∙ sym (each_stepped (λ (p : Option Row). p) (by_key by.groups (key_of_either by) (joined by)) [] both)

  pub further_is : (xs ys zs : List PlacedRow) → AreBoth xs ys zs → has_further slots.groups (λ r. slice_index r 0) (rows_in zs) ≡ more_keys by (map placed_of xs) (map placed_of ys)
  further_is xs ys zs e =
      let both = both_sides (map placed_of xs) (map placed_of ys) in
      ap (has_further slots.groups (λ r. slice_index r 0)) (sym (rows_of_placed zs) ∙ ap (λ (l : List (Placed Row)). rows_of l) (placed_both xs ys zs e) ∙ rows_mapped mark both)
      ∙ further_mapped mark (λ r. slice_index r 0) key_of key_marked slots.groups (rows_of both)

-- a join of two results with places, from what the code made
pub join_made : (lefts rights : List Column) (slots : SlotsShape) (xs ys both : List PlacedRow) (zeros : Row) (i j n : ℕ) (out : List (Placed Row)) (further : Bool)
    → n ≡ slots.groups → i ≡ column_number lefts slots.key → j ≡ column_number rights slots.key → zeros ≡ zeros_of rights
    → map placed_of both ≡ by_arrival (map placed_of (map (marked 0 j) ys)) (map placed_of (map (marked 1 i) xs))
    → out ≡ each_at (join_row zeros j n) [] (map placed_of both) → further ≡ has_further n (λ r. slice_index r 0) (rows_in both)
    → (out ≡ as_of (join_by lefts rights slots) (map placed_of xs) (map placed_of ys)) × (further ≡ more_keys (join_by lefts rights slots) (map placed_of xs) (map placed_of ys))
join_made lefts rights slots xs ys both zeros i j n out further en ei ej ez eb eo ef =
    let is = eb ∙ (λ t. by_arrival (map placed_of (map (marked 0 (ej t)) ys)) (map placed_of (map (marked 1 (ei t)) xs))) in (
      eo ∙ (λ t. each_at (join_row (ez t) (ej t) (en t)) [] (map placed_of both)) ∙ joined_is lefts rights slots xs ys both is,
      ef ∙ (λ t. has_further (en t) (λ r. slice_index r 0) (rows_in both)) ∙ further_is lefts rights slots xs ys both is,
    )
