-- Where the places of neither side fall, the as-of join has a row for each left row of the first keys, beside the last
-- right row of its key that came no later.
use Rattle.std.proofs.Common.{◌≡◌, ℕ, suc, ◌<◌, ◌≤◌, List, [], ◌∷◌, ◌++◌, Option, Some, None, Bool, true, false, length, take, refl, sym, ap, ◌∙◌, arith, inl, inr, append-nil, append_assoc, eq-eqb}
use Rattle.std.specs.Prelude.{filter, filter_map, if◌then◌else◌, nat_eq, nat_le, option_and_then, option_map, slice_get}
use Rattle.std.specs.List.{AllByRecursion, cons_option}
use Rattle.std.proofs.lemmas.Bool.{cases_lt, le-leb, lt-leb}
use Rattle.std.proofs.lemmas.List.{map-append}
use Rattle.std.proofs.lemmas.List.Elements.{filter-append, filter_map-append}
use Rattle.gl_bits.proofs.AllLists.{all_push, all_weaker}
use Rattle.gl_values.specs.Lists.{rows_with}
use Rattle.gl_values.specs.Partitions.{has_key}
use Rattle.gl_frames.specs.Frames.{by_key, if_has_key, row_before}
use Rattle.gl_frames.proofs.LastLemmas.{ends_with}
use Rattle.gl_frames.proofs.PartitionLemmas.{keys_known}
use Rattle.gl_arrival.specs.Places.{IsNoLater, NeverFall, Placed, at_place, rows_of}
use Rattle.gl_arrival.specs.Changes.{each_at, mapped_at}
use Rattle.gl_arrival.proofs.OrderLemmas.{first_next, second_next}
use Rattle.gl_asof.specs.AsOf.{JoinBy, OfEither, of_left, of_right, as_of, both_sides, come_by, joined, joined_last, key_of_either, last_come, last_right, right_of, rights_in, row_for}
use Rattle.gl_asof.specs.Laws.{AsOfIsTheSentence}
use Rattle.gl_asof.proofs.EachLemmas.{each_stepped}

-- ---- lists

-- the front of a list up to an element, and the element at its place
front_with : {A : Type 0} (seen : List A) (z : A) (rest : List A) → take (suc (length seen)) (seen ++ z ∷ rest) ≡ seen ++ z ∷ []
front_with [] z rest = refl
front_with (s ∷ seen) z rest = ap (λ l. s ∷ l) (front_with seen z rest)

stands_behind : {A : Type 0} (seen : List A) (z : A) (rest : List A) → slice_get (seen ++ z ∷ rest) (length seen) ≡ Some z
stands_behind [] z rest = refl
stands_behind (s ∷ seen) z rest = stands_behind seen z rest

-- the rows that came no later than a place are those before it, where the others came later
module _ {B : Type 0} (place : ℕ) where
  all_come : (ys : List (Placed B)) → AllByRecursion (λ (y : Placed B). y.place ≤ place) ys → filter (λ (y : Placed B). nat_le y.place place) ys ≡ ys
  all_come [] h = refl
  all_come (y ∷ ys) h =
      ap (λ (b : Bool). if b then y ∷ filter (λ (z : Placed B). nat_le z.place place) ys else filter (λ (z : Placed B). nat_le z.place place) ys) (le-leb y.place place h.0)
      ∙ ap (λ l. y ∷ l) (all_come ys h.1)

  none_come : (ys : List (Placed B)) → AllByRecursion (λ (y : Placed B). place < y.place) ys → filter (λ (y : Placed B). nat_le y.place place) ys ≡ []
  none_come [] h = refl
  none_come (y ∷ ys) h =
      ap (λ (b : Bool). if b then y ∷ filter (λ (z : Placed B). nat_le z.place place) ys else filter (λ (z : Placed B). nat_le z.place place) ys) (lt-leb y.place place h.0)
      ∙ none_come ys h.1

  past_come : (past ys : List (Placed B)) → AllByRecursion (λ (y : Placed B). y.place ≤ place) past → AllByRecursion (λ (y : Placed B). place < y.place) ys
      → come_by place (past ++ ys) ≡ rows_of past
  past_come past ys h k =
      ap (λ l. rows_of l) (filter-append (λ (y : Placed B). nat_le y.place place) past ys
      ∙ ap (λ l. l ++ filter (λ (y : Placed B). nat_le y.place place) ys) (all_come past h)
      ∙ ap (λ l. past ++ l) (none_come ys k) ∙ append-nil past)

-- what is known where these rows were seen, those of the right side at places that are past, and others are to come
record Here {A B : Type 0} (whole seen : List (OfEither A B)) (past ys : List (Placed B)) (xs : List (Placed A)) : Type 0 where
  pub rights : rights_in seen ≡ rows_of past
  pub together : seen ++ rows_of (both_sides xs ys) ≡ whole
  pub late : AllByRecursion (λ (x : Placed A). AllByRecursion (λ (y : Placed B). y.place ≤ x.place) past) xs
  pub lefts_rise : NeverFall xs
  pub rights_rise : NeverFall ys

module _ {A B C : Type 0} (by : JoinBy A B C) where
  -- ---- the rows of the right side

  rights_left : (zs : List (OfEither A B)) (a : A) → rights_in (zs ++ of_left a ∷ []) ≡ rights_in zs
  rights_left zs a = filter_map-append right_of zs (of_left a ∷ []) ∙ append-nil (rights_in zs)

  rights_right : (zs : List (OfEither A B)) (b : B) → rights_in (zs ++ of_right b ∷ []) ≡ rights_in zs ++ b ∷ []
  rights_right zs b = filter_map-append right_of zs (of_right b ∷ [])

  rights_with : (k : ℕ) (zs : List (OfEither A B)) → rights_in (rows_with (key_of_either by) zs k) ≡ rows_with by.right_key (rights_in zs) k
  rights_with k [] = refl
  rights_with k (z ∷ zs) = more z (rights_with k zs)
    where
      over_left : (a : A) (t : Bool) → rights_in (rows_with (key_of_either by) zs k) ≡ rows_with by.right_key (rights_in zs) k
          → rights_in (if t then of_left a ∷ rows_with (key_of_either by) zs k else rows_with (key_of_either by) zs k) ≡ rows_with by.right_key (rights_in zs) k
      over_left a true e = e
      over_left a false e = e

      over_right : (b : B) (t : Bool) → rights_in (rows_with (key_of_either by) zs k) ≡ rows_with by.right_key (rights_in zs) k
          → rights_in (if t then of_right b ∷ rows_with (key_of_either by) zs k else rows_with (key_of_either by) zs k)
          ≡ (if t then b ∷ rows_with by.right_key (rights_in zs) k else rows_with by.right_key (rights_in zs) k)
      over_right b true e = ap (λ l. b ∷ l) e
      over_right b false e = e

      more : (y : OfEither A B) → rights_in (rows_with (key_of_either by) zs k) ≡ rows_with by.right_key (rights_in zs) k
          → rights_in (rows_with (key_of_either by) (y ∷ zs) k) ≡ rows_with by.right_key (rights_in (y ∷ zs)) k
      more (of_left a) e = over_left a (nat_eq (by.left_key a) k) e
      more (of_right b) e = over_right b (nat_eq (by.right_key b) k) e

  -- ---- what is made of one row more

  -- what the join has of the rows up to a row
  abbrev of_seen : List (OfEither A B) → Option C
  of_seen l = option_and_then (λ (p : Option C). p) (by_key by.groups (key_of_either by) (joined by) l)

  own_behind : (seen : List (OfEither A B)) (z : OfEither A B)
      → rows_with (key_of_either by) (seen ++ z ∷ []) (key_of_either by z) ≡ rows_with (key_of_either by) seen (key_of_either by z) ++ z ∷ []
  own_behind seen z =
      filter-append (λ x. nat_eq (key_of_either by x) (key_of_either by z)) seen (z ∷ [])
      ∙ ap (λ (b : Bool). rows_with (key_of_either by) seen (key_of_either by z) ++ (if b then z ∷ [] else [])) (eq-eqb (key_of_either by z) (key_of_either by z) refl)

  of_last : (seen : List (OfEither A B)) (z : OfEither A B)
      → of_seen (seen ++ z ∷ []) ≡ (if has_key by.groups (key_of_either by) (seen ++ z ∷ []) (key_of_either by z) then joined by (rows_with (key_of_either by) seen (key_of_either by z) ++ z ∷ []) else None)
  of_last seen z =
      ap (λ (o : Option (OfEither A B)). option_and_then (λ (p : Option C). p) (if_has_key by.groups (key_of_either by) (joined by) (seen ++ z ∷ []) o)) (ends_with seen z)
      ∙ split (has_key by.groups (key_of_either by) (seen ++ z ∷ []) (key_of_either by z))
    where
      split : (b : Bool) → option_and_then (λ (p : Option C). p) (if b then Some (joined by (rows_with (key_of_either by) (seen ++ z ∷ []) (key_of_either by z))) else None)
          ≡ (if b then joined by (rows_with (key_of_either by) seen (key_of_either by z) ++ z ∷ []) else None)
      split true = ap (joined by) (own_behind seen z)
      split false = refl

  joined_left : (zs : List (OfEither A B)) (a : A) → joined by (zs ++ of_left a ∷ []) ≡ Some (by.join a (row_before 0 (rights_in zs)))
  joined_left zs a =
      ap (joined_last by (last_right (zs ++ of_left a ∷ []))) (ends_with zs (of_left a))
      ∙ ap (λ (l : List B). Some (by.join a (row_before 0 l))) (rights_left zs a)

  joined_right : (zs : List (OfEither A B)) (b : B) → joined by (zs ++ of_right b ∷ []) ≡ None
  joined_right zs b = ap (joined_last by (last_right (zs ++ of_right b ∷ []))) (ends_with zs (of_right b))

  of_a_right : (seen : List (OfEither A B)) (b : B) → of_seen (seen ++ of_right b ∷ []) ≡ None
  of_a_right seen b = of_last seen (of_right b) ∙ split (has_key by.groups (key_of_either by) (seen ++ of_right b ∷ []) (by.right_key b))
    where
      split : (t : Bool) → (if t then joined by (rows_with (key_of_either by) seen (by.right_key b) ++ of_right b ∷ []) else None) ≡ None
      split true = joined_right (rows_with (key_of_either by) seen (by.right_key b)) b
      split false = refl

  of_a_left : (seen : List (OfEither A B)) (a : A)
      → of_seen (seen ++ of_left a ∷ [])
      ≡ (if has_key by.groups (key_of_either by) (seen ++ of_left a ∷ []) (by.left_key a) then Some (by.join a (row_before 0 (rows_with by.right_key (rights_in seen) (by.left_key a)))) else None)
  of_a_left seen a = of_last seen (of_left a) ∙ split (has_key by.groups (key_of_either by) (seen ++ of_left a ∷ []) (by.left_key a))
    where
      split : (t : Bool) → (if t then joined by (rows_with (key_of_either by) seen (by.left_key a) ++ of_left a ∷ []) else None)
          ≡ (if t then Some (by.join a (row_before 0 (rows_with by.right_key (rights_in seen) (by.left_key a)))) else None)
      split true =
          joined_left (rows_with (key_of_either by) seen (by.left_key a)) a
          ∙ ap (λ (l : List B). Some (by.join a (row_before 0 l))) (rights_with (by.left_key a) seen)
      split false = refl

  -- whether a row's key is among the first ones of all rows is known when it comes
  known : (seen : List (OfEither A B)) (z : OfEither A B) (rest : List (OfEither A B))
      → has_key by.groups (key_of_either by) (seen ++ z ∷ []) (key_of_either by z) ≡ has_key by.groups (key_of_either by) (seen ++ z ∷ rest) (key_of_either by z)
  known seen z rest =
      ap (λ l. has_key by.groups (key_of_either by) l (key_of_either by z)) (sym (front_with seen z rest))
      ∙ keys_known by.groups (key_of_either by) (seen ++ z ∷ rest) (length seen) z (stands_behind seen z rest)

  -- ---- one row at a time

  abbrev Joins : List (OfEither A B) → List (OfEither A B) → List (Placed B) → List (Placed B) → List (Placed A) → Type 0
  Joins whole seen past ys xs = each_at of_seen seen (both_sides xs ys) ≡ filter_map (row_for by whole (past ++ ys)) xs

  -- the row of a left row, behind those seen
  left_row : (whole seen rest : List (OfEither A B)) (past ys : List (Placed B)) (x : Placed A) → rights_in seen ≡ rows_of past → seen ++ of_left x.row ∷ rest ≡ whole
      → AllByRecursion (λ (y : Placed B). y.place ≤ x.place) past → AllByRecursion (λ (y : Placed B). x.place < y.place) ys
      → option_map (λ (c : C). at_place c x.place) (of_seen (seen ++ of_left x.row ∷ [])) ≡ row_for by whole (past ++ ys) x
  left_row whole seen rest past ys x rights together h k =
      ap (option_map (λ (c : C). at_place c x.place)) (of_a_left seen x.row)
      ∙ ap (λ (t : Bool). option_map (λ (c : C). at_place c x.place) (if t then Some (by.join x.row (row_before 0 (rows_with by.right_key (rights_in seen) (by.left_key x.row)))) else None))
      (known seen (of_left x.row) rest ∙ ap (λ l. has_key by.groups (key_of_either by) l (by.left_key x.row)) together)
      ∙ ap (λ (l : List B). option_map (λ (c : C). at_place c x.place)
      (if has_key by.groups (key_of_either by) whole (by.left_key x.row) then Some (by.join x.row (row_before 0 (rows_with by.right_key l (by.left_key x.row)))) else None))
      (rights ∙ sym (past_come x.place past ys h k))
      ∙ split (has_key by.groups (key_of_either by) whole (by.left_key x.row))
    where
      last : Option B
      last = last_come by.right_key (by.left_key x.row) x.place (past ++ ys)

      split : (t : Bool) → option_map (λ (c : C). at_place c x.place) (if t then Some (by.join x.row last) else None) ≡ (if t then Some (at_place (by.join x.row last) x.place) else None)
      split true = refl
      split false = refl

  left_first : (whole seen : List (OfEither A B)) (past ys : List (Placed B)) (x : Placed A) (xs : List (Placed A))
      → both_sides (x ∷ xs) ys ≡ at_place (of_left x.row) x.place ∷ both_sides xs ys → AllByRecursion (λ (y : Placed B). x.place < y.place) ys
      → Here whole seen past ys (x ∷ xs) → (Here whole (seen ++ of_left x.row ∷ []) past ys xs → Joins whole (seen ++ of_left x.row ∷ []) past ys xs)
      → Joins whole seen past ys (x ∷ xs)
  left_first whole seen past ys x xs order later h on =
      let all : seen ++ of_left x.row ∷ rows_of (both_sides xs ys) ≡ whole = ap (λ l. seen ++ rows_of l) (sym order) ∙ h.together in
      let first = left_row whole seen (rows_of (both_sides xs ys)) past ys x h.rights all h.late.0 later in
      let rest = on (record {
        rights = rights_left seen x.row ∙ h.rights;
        together = append_assoc seen (of_left x.row ∷ []) (rows_of (both_sides xs ys)) ∙ all;
        late = h.late.1;
        lefts_rise = h.lefts_rise.1;
        rights_rise = h.rights_rise;
      }) in
      ap (λ l. each_at of_seen seen l) order ∙ (λ i. cons_option (first i) (rest i))

  late_more : (past : List (Placed B)) (y : Placed B) (xs : List (Placed A)) → AllByRecursion (λ (x : Placed A). AllByRecursion (λ (z : Placed B). z.place ≤ x.place) past) xs
      → AllByRecursion (λ (x : Placed A). y.place ≤ x.place) xs → AllByRecursion (λ (x : Placed A). AllByRecursion (λ (z : Placed B). z.place ≤ x.place) (past ++ y ∷ [])) xs
  late_more past y [] h k = tt
  late_more past y (x ∷ xs) h k = (all_push (λ (z : Placed B). z.place ≤ x.place) past y h.0 k.0, late_more past y xs h.1 k.1)

  right_first : (whole seen : List (OfEither A B)) (past ys : List (Placed B)) (y : Placed B) (xs : List (Placed A))
      → both_sides xs (y ∷ ys) ≡ at_place (of_right y.row) y.place ∷ both_sides xs ys → AllByRecursion (λ (x : Placed A). y.place ≤ x.place) xs
      → Here whole seen past (y ∷ ys) xs
      → (Here whole (seen ++ of_right y.row ∷ []) (past ++ y ∷ []) ys xs → Joins whole (seen ++ of_right y.row ∷ []) (past ++ y ∷ []) ys xs)
      → Joins whole seen past (y ∷ ys) xs
  right_first whole seen past ys y xs order later h on =
      let rest = on (record {
        rights = rights_right seen y.row ∙ ap (λ l. l ++ y.row ∷ []) h.rights ∙ sym (map-append (λ (z : Placed B). z.row) past (y ∷ []));
        together = append_assoc seen (of_right y.row ∷ []) (rows_of (both_sides xs ys)) ∙ ap (λ l. seen ++ rows_of l) (sym order) ∙ h.together;
        late = late_more past y xs h.late later;
        lefts_rise = h.lefts_rise;
        rights_rise = h.rights_rise.1;
      }) in
      ap (λ l. each_at of_seen seen l) order
      ∙ ap (λ (o : Option C). cons_option (option_map (λ (c : C). at_place c y.place) o) (each_at of_seen (seen ++ of_right y.row ∷ []) (both_sides xs ys))) (of_a_right seen y.row)
      ∙ rest ∙ ap (λ l. filter_map (row_for by whole l) xs) (append_assoc past (y ∷ []) ys)

  left_alone : (xs : List (Placed A)) (whole seen : List (OfEither A B)) (past : List (Placed B)) → Here whole seen past [] xs → Joins whole seen past [] xs
  left_alone [] whole seen past h = refl
  left_alone (x ∷ xs) whole seen past h = left_first whole seen past [] x xs refl tt h (λ k. left_alone xs whole (seen ++ of_left x.row ∷ []) past k)

  -- the right side with one row more, where it is known without
  next : (y : Placed B) (ys : List (Placed B))
      → ((whole seen : List (OfEither A B)) (past : List (Placed B)) (xs : List (Placed A)) → Here whole seen past ys xs → Joins whole seen past ys xs)
      → (xs : List (Placed A)) (whole seen : List (OfEither A B)) (past : List (Placed B)) → Here whole seen past (y ∷ ys) xs → Joins whole seen past (y ∷ ys) xs
  next y ys on [] whole seen past h = right_first whole seen past ys y [] refl tt h (λ k. on whole (seen ++ of_right y.row ∷ []) (past ++ y ∷ []) [] k)
  next y ys on (x ∷ xs) whole seen past h = elim (cases_lt x.place y.place) [
    | inl lt ↦ (let later : AllByRecursion (λ (z : Placed B). x.place < z.place) ys =
        all_weaker (IsNoLater y) (λ (z : Placed B). x.place < z.place) (λ z le. let far : x.place < z.place = omega (arith, lt, le) in far) ys h.rights_rise.0 in
        left_first whole seen past (y ∷ ys) x xs
        (second_next (at_place (of_right y.row) y.place) (at_place (of_left x.row) x.place) (mapped_at of_right ys) (mapped_at of_left xs) lt)
        (lt, later) h (λ k. next y ys on xs whole (seen ++ of_left x.row ∷ []) past k))
    | inr le ↦ (let later : AllByRecursion (λ (w : Placed A). y.place ≤ w.place) xs =
        all_weaker (IsNoLater x) (λ (w : Placed A). y.place ≤ w.place) (λ w no. let far : y.place ≤ w.place = omega (arith, le, no) in far) xs h.lefts_rise.0 in
        right_first whole seen past ys y (x ∷ xs)
        (first_next (at_place (of_right y.row) y.place) (at_place (of_left x.row) x.place) (mapped_at of_right ys) (mapped_at of_left xs) le)
        (le, later) h (λ k. on whole (seen ++ of_right y.row ∷ []) (past ++ y ∷ []) (x ∷ xs) k))
  ]

  from_here : (ys : List (Placed B)) (whole seen : List (OfEither A B)) (past : List (Placed B)) (xs : List (Placed A)) → Here whole seen past ys xs → Joins whole seen past ys xs
  from_here [] whole seen past xs h = left_alone xs whole seen past h
  from_here (y ∷ ys) whole seen past xs h = next y ys (λ w s p zs k. from_here ys w s p zs k) xs whole seen past h

  none_past : (xs : List (Placed A)) → AllByRecursion (λ (x : Placed A). AllByRecursion (λ (y : Placed B). y.place ≤ x.place) []) xs
  none_past [] = tt
  none_past (x ∷ xs) = (tt, none_past xs)

  pub sentence : (xs : List (Placed A)) (ys : List (Placed B)) → NeverFall xs → NeverFall ys
      → as_of by xs ys ≡ filter_map (row_for by (rows_of (both_sides xs ys)) ys) xs
  sentence xs ys h k =
      each_stepped (λ (p : Option C). p) (by_key by.groups (key_of_either by) (joined by)) [] (both_sides xs ys)
      ∙ from_here ys (rows_of (both_sides xs ys)) [] [] xs (record { rights = refl; together = refl; late = none_past xs; lefts_rise = h; rights_rise = k })

pub is_the_sentence : {A B C : Type 0} → AsOfIsTheSentence A B C
is_the_sentence by xs ys h k = sentence by xs ys h k
