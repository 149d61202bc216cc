-- What the nodes of an as-of join make of rows of both sides: the rows of the join.
use Rattle.std.proofs.Common.{◌≡◌, ℕ, zero, suc, ◌+◌, ◌<◌, Bool, true, false, List, [], ◌∷◌, ◌++◌, length, Option, Some, None, get_or, slice_index, refl, sym, ap, ◌∙◌, arith, map, filter, nat_eq, append-nil, append_assoc, length-append}
use Rattle.std.specs.Prelude.{IfSome, if◌then◌else◌, remove, slice_set}
use Rattle.std.specs.List.{AllByRecursion, range_with_len}
use Rattle.std.proofs.lemmas.List.{length-map, map-append}
use Rattle.std.proofs.lemmas.List.Edits.{length-remove}
use Rattle.gl_values.specs.Results.{Row}
use Rattle.gl_values.specs.declared.kind.Kind.{Kind}
use Rattle.gl_bits.proofs.AllLists.{map_map}
use Rattle.gl_frames.specs.Frames.{lag_of, last_value_of, number_or, row_before}
use Rattle.gl_asof.specs.AsOf.{OfEither, of_left, of_right, joined_last, key_of_either, last_right, rights_in}
use Rattle.gl_asof.specs.Laws.{MakesJoined, picked_of}
use Rattle.gl_schema.specs.declared.schema.Column.{Column as NamedColumn}
use Rattle.gl_query.specs.Columns.{but_key}
use Rattle.gl_query.specs.Laws.{IsLongAs}
use Rattle.gl_query.specs.Results.{beside_last, join_by}
use Rattle.gl_query.specs.Shapes.{SlotsShape}
use Rattle.gl_query.specs.Values.{column_number}
use Rattle.gl_query.proofs.Holding.{OfSide, all_before, last_holds}
use Rattle.gl_algebra.specs.Results.{counts_in, projected, row_of_frames, value_of_frame}
use Rattle.gl_algebra.specs.Values.{Sets, value_of_operand}
use Rattle.gl_algebra.specs.declared.node.Operand.{Operand}
use Rattle.gl_algebra.specs.declared.node.Operand.TheVariants as operand
use Rattle.gl_algebra.specs.declared.node.PlanFrame.{PlanFrame}
use Rattle.gl_algebra.specs.declared.node.PlanFrame.TheVariants as frame
use Rattle.gl_elaborate.specs.Joins.{columns_from, join_frames, joined_columns, last_marked, left_items, mark, right_items, zero_of, zeros_for}
use Rattle.gl_elaborate.proofs.FramedLemmas.{lag_mapped, last_mapped}

-- ---- lists by their places

module _ {A : Type 0} (d : A) where
  pub index_at : (xs : List A) (y : A) (zs : List A) → get_or (xs ++ y ∷ zs) (length xs) d ≡ y
  index_at [] y zs = refl
  index_at (x ∷ xs) y zs = index_at xs y zs

  pub index_front : (xs zs : List A) (n : ℕ) → n < length xs → get_or (xs ++ zs) n d ≡ get_or xs n d
  index_front [] zs n lt = absurd (omega (arith, lt))
  index_front (x ∷ xs) zs zero lt = refl
  index_front (x ∷ xs) zs (suc n) lt = index_front xs zs n (omega (arith, lt))

  -- the elements from a place on
  pub picked_back : (xs ys zs : List A) → map (λ c. get_or (xs ++ (ys ++ zs)) c d) (range_with_len (length xs) (length ys)) ≡ ys
  picked_back xs [] zs = refl
  picked_back xs (y ∷ ys) zs =
      let long : length (xs ++ y ∷ []) ≡ length xs + 1 = length-append xs (y ∷ []) in
      let rest : map (λ c. get_or (xs ++ (y ∷ ys ++ zs)) c d) (range_with_len (length xs + 1) (length ys)) ≡ ys =
      ap (λ n. map (λ c. get_or (xs ++ (y ∷ ys ++ zs)) c d) (range_with_len n (length ys))) (sym long)
      ∙ ap (λ (l : List A). map (λ c. get_or l c d) (range_with_len (length (xs ++ y ∷ [])) (length ys))) (sym (append_assoc xs (y ∷ []) (ys ++ zs)))
      ∙ picked_back (xs ++ y ∷ []) ys zs in
      λ i. index_at xs y (ys ++ zs) i ∷ rest i

pub map_remove : {A B : Type 0} (f : A → B) (xs : List A) (k : ℕ) → map f (remove xs k) ≡ remove (map f xs) k
map_remove f [] zero = refl
map_remove f [] (suc k) = refl
map_remove f (x ∷ xs) zero = refl
map_remove {B = B} f (x ∷ xs) (suc k) = ap (λ (l : List B). f x ∷ l) (map_remove f xs k)

-- zeros for as many as stand in a list
zeros_of : {A : Type 0} (xs : List A) (from n : ℕ) → n ≡ length xs → map {B = ℕ} (λ c. 0) (range_with_len from n) ≡ map {B = ℕ} (λ (x : A). 0) xs
zeros_of [] from zero e = refl
zeros_of [] from (suc n) e = absurd (omega (arith, e))
zeros_of (x ∷ xs) from zero e = absurd (omega (arith, e))
zeros_of (x ∷ xs) from (suc n) e = ap (λ (l : List ℕ). 0 ∷ l) (zeros_of xs (from + 1) n (omega (arith, e)))

pub range_long : (from n : ℕ) → length (range_with_len from n) ≡ n
range_long from zero = refl
range_long from (suc n) = ap suc (range_long (from + 1) n)

-- ---- the values of columns and of zeros

own_columns : (sets : Sets) (row : Row) → map (value_of_operand sets row) (columns_from 0 (length row)) ≡ row
own_columns sets row =
    map_map (value_of_operand sets row) operand.Column (range_with_len 0 (length row))
    ∙ ap (λ (l : Row). map (λ c. get_or l c 0) (range_with_len 0 (length row))) (sym (append-nil row))
    ∙ picked_back 0 [] row []

zero_values : (sets : Sets) (row : Row) (columns : List NamedColumn) → map (value_of_operand sets row) (zeros_for columns) ≡ map (λ (c : NamedColumn). 0) columns
zero_values sets row [] = refl
zero_values sets row (c ∷ columns) = ap (λ (l : Row). 0 ∷ l) (zero_values sets row columns)

set_long : (sets : Sets) (row : Row) (columns : List NamedColumn) (place : ℕ) (x : Operand) → length (map (value_of_operand sets row) (slice_set (zeros_for columns) place x)) ≡ length columns
set_long sets row [] zero x = refl
set_long sets row [] (suc place) x = refl
set_long sets row (c ∷ columns) zero x = ap suc (length-map (zeros_for columns) (value_of_operand sets row) ∙ length-map columns (λ (e : NamedColumn). zero_of e.kind))
set_long sets row (c ∷ columns) (suc place) x = ap suc (set_long sets row columns place x)

set_there : (sets : Sets) (row : Row) (columns : List NamedColumn) (place : ℕ) (x : Operand) → place < length columns
    → slice_index (map (value_of_operand sets row) (slice_set (zeros_for columns) place x)) place ≡ value_of_operand sets row x
set_there sets row [] place x lt = absurd (omega (arith, lt))
set_there sets row (c ∷ columns) zero x lt = refl
set_there sets row (c ∷ columns) (suc place) x lt = set_there sets row columns place x (omega (arith, lt))

-- a row is of the right side
abbrev is_right : OfEither Row Row → Bool
is_right (of_left a) = false
is_right (of_right b) = true

rights_kept : (zs : List (OfEither Row Row)) → filter is_right zs ≡ map of_right (rights_in zs)
rights_kept [] = refl
rights_kept (of_left a ∷ zs) = rights_kept zs
rights_kept (of_right b ∷ zs) = ap (λ (l : List (OfEither Row Row)). of_right b ∷ l) (rights_kept zs)

-- a join of columns whose key is among both sides'
module _ (lefts rights : List NamedColumn) (slots : SlotsShape) (left_in : column_number lefts slots.key < length lefts) (right_in : column_number rights slots.key < length rights)
    (sets : Sets) where
  abbrev all : ℕ
  all = joined_columns lefts rights slots.key

  abbrev more : ℕ
  more = length (but_key slots.key rights)

  -- a row of either side with columns for all
  abbrev pub widened : OfEither Row Row → Row
  widened (of_left a) = projected sets (left_items lefts rights slots.key) a
  widened (of_right b) = projected sets (right_items lefts rights slots.key) b

  abbrev pub OfEach : OfEither Row Row → Type 0
  OfEach z = OfSide (IsLongAs lefts) (IsLongAs rights) z

  abbrev zeros : Row
  zeros = map (λ (c : NamedColumn). 0) (but_key slots.key rights)

  -- the left columns of a row of the right side
  abbrev placed_key : Row → Row
  placed_key b = map (value_of_operand sets b) (slice_set (zeros_for lefts) (column_number lefts slots.key) (operand.Column (column_number rights slots.key)))

  left_row : (a : Row) → IsLongAs lefts a → widened (of_left a) ≡ a ++ (zeros ++ 0 ∷ 1 ∷ [])
  left_row a long =
      map-append (value_of_operand sets a) (columns_from 0 (length lefts)) (zeros_for (but_key slots.key rights) ++ mark 0 ∷ mark 1 ∷ [])
      ∙ ap (λ n. map (value_of_operand sets a) (columns_from 0 n) ++ map (value_of_operand sets a) (zeros_for (but_key slots.key rights) ++ mark 0 ∷ mark 1 ∷ [])) (sym long)
      ∙ ap (λ (l : Row). l ++ map (value_of_operand sets a) (zeros_for (but_key slots.key rights) ++ mark 0 ∷ mark 1 ∷ [])) (own_columns sets a)
      ∙ ap (λ (l : Row). a ++ l) (map-append (value_of_operand sets a) (zeros_for (but_key slots.key rights)) (mark 0 ∷ mark 1 ∷ [])
      ∙ ap (λ (l : Row). l ++ 0 ∷ 1 ∷ []) (zero_values sets a (but_key slots.key rights)))

  others : (b : Row) → IsLongAs rights b → map (value_of_operand sets b) (remove (columns_from 0 (length rights)) (column_number rights slots.key)) ≡ remove b (column_number rights slots.key)
  others b long =
      map_remove (value_of_operand sets b) (columns_from 0 (length rights)) (column_number rights slots.key)
      ∙ ap (λ n. remove (map (value_of_operand sets b) (columns_from 0 n)) (column_number rights slots.key)) (sym long)
      ∙ ap (λ (l : Row). remove l (column_number rights slots.key)) (own_columns sets b)

  right_row : (b : Row) → IsLongAs rights b → widened (of_right b) ≡ placed_key b ++ (remove b (column_number rights slots.key) ++ 1 ∷ 0 ∷ [])
  right_row b long =
      map-append (value_of_operand sets b) (slice_set (zeros_for lefts) (column_number lefts slots.key) (operand.Column (column_number rights slots.key)))
      (remove (columns_from 0 (length rights)) (column_number rights slots.key) ++ mark 1 ∷ mark 0 ∷ [])
      ∙ ap (λ (l : Row). placed_key b ++ l) (map-append (value_of_operand sets b) (remove (columns_from 0 (length rights)) (column_number rights slots.key)) (mark 1 ∷ mark 0 ∷ [])
      ∙ ap (λ (l : Row). l ++ 1 ∷ 0 ∷ []) (others b long))

  key_long : (b : Row) → length (placed_key b) ≡ length lefts
  key_long b = set_long sets b lefts (column_number lefts slots.key) (operand.Column (column_number rights slots.key))

  zeros_long : length zeros ≡ more
  zeros_long = length-map (but_key slots.key rights) (λ (c : NamedColumn). 0)

  others_long : (b : Row) → IsLongAs rights b → length (remove b (column_number rights slots.key)) ≡ more
  others_long b long =
      let mine = length-remove b (column_number rights slots.key) (let lt = right_in in omega (arith, long, lt)) in
      let theirs = length-remove rights (column_number rights slots.key) right_in in
      omega (arith, mine, theirs, long)

  key_there : (b : Row) → slice_index (placed_key b) (column_number lefts slots.key) ≡ slice_index b (column_number rights slots.key)
  key_there b = set_there sets b lefts (column_number lefts slots.key) (operand.Column (column_number rights slots.key)) left_in

  -- ---- the key and the marks

  pub key_alike : (z : OfEither Row Row) → OfEach z → slice_index (widened z) (column_number lefts slots.key) ≡ key_of_either (join_by lefts rights slots) z
  key_alike (of_left a) long =
      ap (λ (l : Row). slice_index l (column_number lefts slots.key)) (left_row a long)
      ∙ index_front 0 a (zeros ++ 0 ∷ 1 ∷ []) (column_number lefts slots.key) (let lt = left_in in omega (arith, long, lt))
  key_alike (of_right b) long =
      ap (λ (l : Row). slice_index l (column_number lefts slots.key)) (right_row b long)
      ∙ index_front 0 (placed_key b) (remove b (column_number rights slots.key) ++ 1 ∷ 0 ∷ []) (column_number lefts slots.key) (let lt = left_in in let k = key_long b in omega (arith, k, lt))
      ∙ key_there b

  -- what stands at a place of three rows behind each other, where the place is behind two of them
  mark_at : (xs ys : Row) (y : ℕ) (zs : Row) → length xs ≡ length lefts → length ys ≡ more → slice_index (xs ++ (ys ++ y ∷ zs)) all ≡ y
  mark_at xs ys y zs e f =
      let long = length-append xs ys in
      let here : all ≡ length (xs ++ ys) = omega (arith, long, e, f) in
      let apart : xs ++ (ys ++ y ∷ zs) ≡ (xs ++ ys) ++ y ∷ zs = sym (append_assoc xs ys (y ∷ zs)) in
      (λ i. slice_index (apart i) (here i)) ∙ index_at 0 (xs ++ ys) y zs

  mark_behind : (xs ys : Row) (x y : ℕ) → length xs ≡ length lefts → length ys ≡ more → slice_index (xs ++ (ys ++ x ∷ y ∷ [])) (all + 1) ≡ y
  mark_behind xs ys x y e f =
      let long = length-append xs ys in
      let longer = length-append (xs ++ ys) (x ∷ []) in
      let here : all + 1 ≡ length ((xs ++ ys) ++ x ∷ []) = omega (arith, long, longer, e, f) in
      let apart : xs ++ (ys ++ x ∷ y ∷ []) ≡ ((xs ++ ys) ++ x ∷ []) ++ y ∷ [] =
      sym (append_assoc (xs ++ ys) (x ∷ []) (y ∷ []) ∙ append_assoc xs ys (x ∷ y ∷ [])) in
      (λ i. slice_index (apart i) (here i)) ∙ index_at 0 ((xs ++ ys) ++ x ∷ []) y []

  right_marked : (z : OfEither Row Row) → OfEach z → counts_in (Some all) (widened z) ≡ is_right z
  right_marked (of_left a) long = ap (λ n. nat_eq n 1) (ap (λ (l : Row). slice_index l all) (left_row a long) ∙ mark_at a zeros 0 (1 ∷ []) long zeros_long)
  right_marked (of_right b) long =
      ap (λ n. nat_eq n 1) (ap (λ (l : Row). slice_index l all) (right_row b long)
      ∙ mark_at (placed_key b) (remove b (column_number rights slots.key)) 1 (0 ∷ []) (key_long b) (others_long b long))

  left_mark : (a : Row) → IsLongAs lefts a → slice_index (widened (of_left a)) (all + 1) ≡ 1
  left_mark a long = ap (λ (l : Row). slice_index l (all + 1)) (left_row a long) ∙ mark_behind a zeros 0 1 long zeros_long

  no_left_mark : (b : Row) → IsLongAs rights b → slice_index (widened (of_right b)) (all + 1) ≡ 0
  no_left_mark b long =
      ap (λ (l : Row). slice_index l (all + 1)) (right_row b long)
      ∙ mark_behind (placed_key b) (remove b (column_number rights slots.key)) 1 0 (key_long b) (others_long b long)

  -- ---- the frames

  -- the values of the left columns, of the right ones, and the mark
  abbrev lefts_of : Option (OfEither Row Row) → Row
  lefts_of o = map (λ c. number_or (λ z. slice_index (widened z) c) o) (range_with_len 0 (length lefts))

  abbrev rights_of : Option Row → Row
  rights_of o = map (λ c. number_or (λ b. slice_index (widened (of_right b)) c) o) (range_with_len (length lefts) more)

  abbrev mark_of : Option (OfEither Row Row) → ℕ
  mark_of o = number_or (λ z. slice_index (widened z) (all + 1)) o

  own_value : (zs : List (OfEither Row Row)) (c : ℕ) → AllByRecursion OfEach zs → lag_of (λ (row : Row). slice_index row c) 0 (map widened zs) ≡ number_or (λ z. slice_index (widened z) c) (row_before 0 zs)
  own_value zs c h = lag_mapped widened OfEach (λ (row : Row). slice_index row c) (λ z. slice_index (widened z) c) (λ z k. refl) 0 zs h

  last_value : (zs : List (OfEither Row Row)) (c : ℕ) → AllByRecursion OfEach zs
      → last_value_of (λ (row : Row). slice_index row c) None (counts_in (Some all)) (map widened zs) ≡ number_or (λ b. slice_index (widened (of_right b)) c) (last_right zs)
  last_value zs c h =
      last_mapped widened OfEach (counts_in (Some all)) is_right right_marked (λ (row : Row). slice_index row c) (λ z. slice_index (widened z) c) (λ z k. refl) None zs h
      ∙ ap (λ (l : List (OfEither Row Row)). number_or (λ z. slice_index (widened z) c) (row_before 0 l)) (rights_kept zs)
      ∙ lag_mapped of_right (λ (b : Row). Unit {0}) (λ z. slice_index (widened z) c) (λ b. slice_index (widened (of_right b)) c) (λ b k. refl) 0 (rights_in zs) (of_any (rights_in zs))
    where
      of_any : (rows : List Row) → AllByRecursion (λ (b : Row). Unit {0}) rows
      of_any [] = tt
      of_any (b ∷ rows) = (tt, of_any rows)

  framed_as : (kinds : List Kind) (zs : List (OfEither Row Row)) → AllByRecursion OfEach zs
      → row_of_frames sets kinds (join_frames lefts rights slots.key) (map widened zs) ≡ lefts_of (row_before 0 zs) ++ (rights_of (last_right zs) ++ mark_of (row_before 0 zs) ∷ [])
  framed_as kinds zs h =
      let value : PlanFrame → ℕ = value_of_frame sets kinds (map widened zs) in
      let owns : List PlanFrame = map (λ c. frame.Own (operand.Column c)) (range_with_len 0 (length lefts)) in
      let lasts : List PlanFrame = map (last_marked all) (range_with_len (length lefts) more) in
      let last : List PlanFrame = frame.Own (operand.Column (all + 1)) ∷ [] in
      map-append value owns (lasts ++ last) ∙ ap (λ (l : Row). map value owns ++ l) (map-append value lasts last)
      ∙ (λ i. own_all (range_with_len 0 (length lefts)) i ++ (last_all (range_with_len (length lefts) more) i ++ own_value zs (all + 1) h i ∷ []))
    where
      own_all : (cs : List ℕ) → map (value_of_frame sets kinds (map widened zs)) (map (λ c. frame.Own (operand.Column c)) cs) ≡ map (λ c. number_or (λ z. slice_index (widened z) c) (row_before 0 zs)) cs
      own_all [] = refl
      own_all (c ∷ cs) = λ i. own_value zs c h i ∷ own_all cs i

      last_all : (cs : List ℕ) → map (value_of_frame sets kinds (map widened zs)) (map (last_marked all) cs) ≡ map (λ c. number_or (λ b. slice_index (widened (of_right b)) c) (last_right zs)) cs
      last_all [] = refl
      last_all (c ∷ cs) = λ i. last_value zs c h i ∷ last_all cs i

  -- ---- what is kept of them

  lefts_long : (o : Option (OfEither Row Row)) → length (lefts_of o) ≡ length lefts
  lefts_long o = length-map (range_with_len 0 (length lefts)) (λ c. number_or (λ z. slice_index (widened z) c) o) ∙ range_long 0 (length lefts)

  rights_long : (o : Option Row) → length (rights_of o) ≡ more
  rights_long o = length-map (range_with_len (length lefts) more) (λ c. number_or (λ b. slice_index (widened (of_right b)) c) o) ∙ range_long (length lefts) more

  own_lefts : (a : Row) → IsLongAs lefts a → lefts_of (Some (of_left a)) ≡ a
  own_lefts a long =
      ap (λ (l : Row). map (λ c. slice_index l c) (range_with_len 0 (length lefts))) (left_row a long)
      ∙ ap (λ n. map (λ c. slice_index (a ++ (zeros ++ 0 ∷ 1 ∷ [])) c) (range_with_len 0 n)) (sym long)
      ∙ picked_back 0 [] a (zeros ++ 0 ∷ 1 ∷ [])

  own_rights : (a : Row) (o : Option Row) → IfSome o (IsLongAs rights) → a ++ rights_of o ≡ beside_last rights slots.key a o
  own_rights a None h = ap (λ (l : Row). a ++ l) (zeros_of (but_key slots.key rights) (length lefts) more refl)
  own_rights a (Some b) long =
      let rest : Row = remove b (column_number rights slots.key) in
      ap (λ (l : Row). a ++ l)
      (ap (λ (l : Row). map (λ c. slice_index l c) (range_with_len (length lefts) more)) (right_row b long)
      ∙ (λ i. map (λ c. slice_index (placed_key b ++ (rest ++ 1 ∷ 0 ∷ [])) c) (range_with_len (sym (key_long b) i) (sym (others_long b long) i)))
      ∙ picked_back 0 (placed_key b) rest (1 ∷ 0 ∷ []))

  -- the first columns of a row
  front_of : (xs ys zs : Row) → length xs ≡ length lefts → length ys ≡ more → projected sets (columns_from 0 all) (xs ++ (ys ++ zs)) ≡ xs ++ ys
  front_of xs ys zs e f =
      let long = length-append xs ys in
      let here : all ≡ length (xs ++ ys) = omega (arith, long, e, f) in
      let apart : xs ++ (ys ++ zs) ≡ (xs ++ ys) ++ zs = sym (append_assoc xs ys zs) in
      map_map (value_of_operand sets (xs ++ (ys ++ zs))) operand.Column (range_with_len 0 all)
      ∙ (λ i. map (λ c. slice_index (apart i) c) (range_with_len 0 (here i)))
      ∙ picked_back 0 [] (xs ++ ys) zs

  -- whether a row is kept is its mark
  abbrev pub passes : Row → Bool
  passes row = nat_eq (slice_index row all) 1

  by_last : (o : Option (OfEither Row Row)) (r : Option Row) → IfSome o OfEach → IfSome r (IsLongAs rights)
      → picked_of passes (projected sets (columns_from 0 all)) (lefts_of o ++ (rights_of r ++ mark_of o ∷ [])) ≡ joined_last (join_by lefts rights slots) r o
  by_last o r h k =
      ap (λ n. if nat_eq n 1 then Some (projected sets (columns_from 0 all) (lefts_of o ++ (rights_of r ++ mark_of o ∷ []))) else None)
      (mark_at (lefts_of o) (rights_of r) (mark_of o) [] (lefts_long o) (rights_long r))
      ∙ of_sort o h
    where
      of_sort : (p : Option (OfEither Row Row)) → IfSome p OfEach
          → (if nat_eq (mark_of p) 1 then Some (projected sets (columns_from 0 all) (lefts_of p ++ (rights_of r ++ mark_of p ∷ []))) else None) ≡ joined_last (join_by lefts rights slots) r p
      of_sort None q = refl
      of_sort (Some (of_right b)) q =
          ap (λ n. if nat_eq n 1 then Some (projected sets (columns_from 0 all) (lefts_of (Some (of_right b)) ++ (rights_of r ++ mark_of (Some (of_right b)) ∷ []))) else None) (no_left_mark b q)
      of_sort (Some (of_left a)) q =
          ap (λ n. if nat_eq n 1 then Some (projected sets (columns_from 0 all) (lefts_of (Some (of_left a)) ++ (rights_of r ++ mark_of (Some (of_left a)) ∷ []))) else None) (left_mark a q)
          ∙ ap Some (front_of (lefts_of (Some (of_left a))) (rights_of r) (mark_of (Some (of_left a)) ∷ []) (lefts_long (Some (of_left a))) (rights_long r)
          ∙ ap (λ (l : Row). l ++ rights_of r) (own_lefts a q) ∙ own_rights a r k)

  -- what frames make of rows of both sides, kept and without the mark, is the join of them
  pub makes_joined : (kinds : List Kind) → MakesJoined (join_by lefts rights slots) OfEach (λ zs. row_of_frames sets kinds (join_frames lefts rights slots.key) (map widened zs)) passes (projected sets (columns_from 0 all))
  makes_joined kinds zs h =
      ap (picked_of passes (projected sets (columns_from 0 all))) (framed_as kinds zs h)
      ∙ by_last (row_before 0 zs) (last_right zs) (all_before OfEach 0 zs h) (last_holds (IsLongAs lefts) (IsLongAs rights) zs h)
