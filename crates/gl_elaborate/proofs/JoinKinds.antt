-- The kinds of the columns of an as-of join's nodes, and that these nodes fit.
use Rattle.std.proofs.Common.{◌≡◌, ℕ, zero, suc, ◌+◌, ◌<◌, ◌≤◌, List, [], ◌∷◌, ◌++◌, length, Some, get_or, refl, sym, ap, ◌∙◌, arith, lit<, map, append-nil, append_assoc, length-append}
use Rattle.std.specs.Prelude.{max, remove, slice_get, slice_set}
use Rattle.std.specs.List.{AllByRecursion, range_with_len}
use Rattle.std.proofs.lemmas.List.{length-map, map-append}
use Rattle.std.proofs.lemmas.Nat.{pow_pos}
use Rattle.gl_values.specs.Kinds.{IsKind, width_of}
use Rattle.gl_values.specs.declared.kind.Kind.{Kind}
use Rattle.gl_values.proofs.KindLemmas.{bit_is_kind, kind_some}
use Rattle.gl_bits.proofs.AllLists.{all_append, map_map}
use Rattle.gl_schema.specs.declared.schema.Column.{Column as NamedColumn}
use Rattle.gl_schema.specs.Schemas.{kinds_of}
use Rattle.gl_query.specs.Columns.{but_key}
use Rattle.gl_query.specs.Laws.{AreKinds}
use Rattle.gl_query.specs.Shapes.{SlotsShape}
use Rattle.gl_query.specs.Values.{column_kind, column_number}
use Rattle.gl_algebra.specs.Columns.{FrameFits, OperandFits, bit_kind, kind_of_column, kind_of_frame, kind_of_operand}
use Rattle.gl_algebra.specs.Frames.{delay_of_frames}
use Rattle.gl_algebra.specs.Keys.{cycles_of_look_up, delay_by_key}
use Rattle.gl_algebra.specs.declared.node.Operand.{Operand}
use Rattle.gl_algebra.specs.declared.node.Operand.TheVariants as operand
use Rattle.gl_algebra.specs.declared.node.PlanFrame.{PlanFrame}
use Rattle.gl_algebra.specs.declared.node.PlanFrame.TheVariants as frame
use Rattle.gl_elaborate.specs.Figures.{parted_delay}
use Rattle.gl_elaborate.specs.Joins.{columns_from, join_frames, join_key, joined_columns, last_marked, left_items, mark, right_items, zero_of, zeros_for}
use Rattle.gl_elaborate.proofs.JoinValues.{index_at, index_front, map_remove, picked_back}
use Rattle.gl_elaborate.proofs.TermLemmas.{kind-column}

-- ---- lists

-- what stands behind a list
stands_at : {A : Type 0} (xs : List A) (y : A) (zs : List A) → slice_get (xs ++ y ∷ zs) (length xs) ≡ Some y
stands_at [] y zs = refl
stands_at (x ∷ xs) y zs = stands_at xs y zs

all_but : {A : Type 0} (P : A → Type 0) (xs : List A) (k : ℕ) → AllByRecursion P xs → AllByRecursion P (remove xs k)
all_but P [] zero h = tt
all_but P [] (suc k) h = tt
all_but P (x ∷ xs) zero h = h.1
all_but P (x ∷ xs) (suc k) h = (h.0, all_but P xs k h.1)

-- ---- operands that fit

zero_fits : (kinds : List Kind) (kind : Kind) → IsKind kind → OperandFits kinds (zero_of kind)
zero_fits kinds kind is = (record { width = record { some' = kind_some kind is; most = omega (arith, is.1) }; fits = pow_pos (width_of kind) }, is, refl)

zeros_fit : (kinds : List Kind) (columns : List NamedColumn) → AreKinds columns → AllByRecursion (OperandFits kinds) (zeros_for columns)
zeros_fit kinds [] h = tt
zeros_fit kinds (c ∷ columns) h = (zero_fits kinds c.kind h.0, zeros_fit kinds columns h.1)

set_fits : (kinds : List Kind) (columns : List NamedColumn) (place : ℕ) (x : Operand) → AreKinds columns → OperandFits kinds x
    → AllByRecursion (OperandFits kinds) (slice_set (zeros_for columns) place x)
set_fits kinds [] zero x h f = tt
set_fits kinds [] (suc place) x h f = tt
set_fits kinds (c ∷ columns) zero x h f = (f, zeros_fit kinds columns h.1)
set_fits kinds (c ∷ columns) (suc place) x h f = (zero_fits kinds c.kind h.0, set_fits kinds columns place x h.1 f)

columns_fit : (kinds : List Kind) (from n : ℕ) → from + n ≤ length kinds → AllByRecursion (OperandFits kinds) (columns_from from n)
columns_fit kinds from zero le = tt
columns_fit kinds from (suc n) le = (omega (arith, le), columns_fit kinds (from + 1) n (omega (arith, le)))

no_mark_fits : (kinds : List Kind) → OperandFits kinds (mark 0)
no_mark_fits kinds = (record { width = record { some' = omega arith; most = omega arith }; fits = lit< tt }, bit_is_kind, refl)

mark_fits : (kinds : List Kind) → OperandFits kinds (mark 1)
mark_fits kinds = (record { width = record { some' = omega arith; most = omega arith }; fits = lit< tt }, bit_is_kind, refl)

-- ---- kinds

own_kinds : (kinds : List Kind) → map (kind_of_operand kinds) (columns_from 0 (length kinds)) ≡ kinds
own_kinds kinds =
    map_map (kind_of_operand kinds) operand.Column (range_with_len 0 (length kinds))
    ∙ ap (λ (l : List Kind). map (λ c. get_or l c bit_kind) (range_with_len 0 (length kinds))) (sym (append-nil kinds))
    ∙ picked_back bit_kind [] kinds []

pub first_kinds : (ks more : List Kind) → map (kind_of_operand (ks ++ more)) (columns_from 0 (length ks)) ≡ ks
first_kinds ks more = map_map (kind_of_operand (ks ++ more)) operand.Column (range_with_len 0 (length ks)) ∙ picked_back bit_kind [] ks more

zero_kinds : (kinds : List Kind) (columns : List NamedColumn) → map (kind_of_operand kinds) (zeros_for columns) ≡ kinds_of columns
zero_kinds kinds [] = refl
zero_kinds kinds (c ∷ columns) = ap (λ l. c.kind ∷ l) (zero_kinds kinds columns)

set_kinds : (kinds : List Kind) (columns : List NamedColumn) (place : ℕ) (x : Operand) → kind_of_operand kinds x ≡ kind_of_column (kinds_of columns) place
    → place < length columns → map (kind_of_operand kinds) (slice_set (zeros_for columns) place x) ≡ kinds_of columns
set_kinds kinds [] place x e lt = absurd (omega (arith, lt))
set_kinds kinds (c ∷ columns) zero x e lt = λ i. e i ∷ zero_kinds kinds columns i
set_kinds kinds (c ∷ columns) (suc place) x e lt = ap (λ l. c.kind ∷ l) (set_kinds kinds columns place x e (omega (arith, lt)))

-- ---- a join

module _ (lefts rights : List NamedColumn) (slots : SlotsShape) (left_in : column_number lefts slots.key < length lefts) (right_in : column_number rights slots.key < length rights)
    (alike : column_kind lefts slots.key ≡ column_kind rights slots.key) (left_kinds : AreKinds lefts) (right_kinds : AreKinds rights) where
  abbrev all : ℕ
  all = joined_columns lefts rights slots.key

  abbrev own : List Kind
  own = kinds_of lefts

  abbrev other : List Kind
  other = kinds_of (but_key slots.key rights)

  -- the kinds of rows of either side with columns for all, and of what frames make of them
  abbrev pub wide : List Kind
  wide = own ++ (other ++ bit_kind ∷ bit_kind ∷ [])

  abbrev pub framed_kinds : List Kind
  framed_kinds = own ++ (other ++ bit_kind ∷ [])

  own_long : length own ≡ length lefts
  own_long = length-map lefts (λ (c : NamedColumn). c.kind)

  other_long : length other ≡ length (but_key slots.key rights)
  other_long = length-map (but_key slots.key rights) (λ (c : NamedColumn). c.kind)

  columns_kinds : (columns : List NamedColumn) → map (kind_of_operand (kinds_of columns)) (columns_from 0 (length columns)) ≡ kinds_of columns
  columns_kinds columns =
      ap (λ n. map (kind_of_operand (kinds_of columns)) (columns_from 0 n)) (sym (length-map columns (λ (c : NamedColumn). c.kind))) ∙ own_kinds (kinds_of columns)

  pub left_wide : map (kind_of_operand own) (left_items lefts rights slots.key) ≡ wide
  left_wide =
      map-append (kind_of_operand own) (columns_from 0 (length lefts)) (zeros_for (but_key slots.key rights) ++ mark 0 ∷ mark 1 ∷ [])
      ∙ ap (λ (l : List Kind). l ++ map (kind_of_operand own) (zeros_for (but_key slots.key rights) ++ mark 0 ∷ mark 1 ∷ [])) (columns_kinds lefts)
      ∙ ap (λ (l : List Kind). own ++ l) (map-append (kind_of_operand own) (zeros_for (but_key slots.key rights)) (mark 0 ∷ mark 1 ∷ [])
      ∙ ap (λ (l : List Kind). l ++ bit_kind ∷ bit_kind ∷ []) (zero_kinds own (but_key slots.key rights)))

  others_kinds : map (kind_of_operand (kinds_of rights)) (remove (columns_from 0 (length rights)) (column_number rights slots.key)) ≡ other
  others_kinds =
      map_remove (kind_of_operand (kinds_of rights)) (columns_from 0 (length rights)) (column_number rights slots.key)
      ∙ ap (λ (l : List Kind). remove l (column_number rights slots.key)) (columns_kinds rights)
      ∙ sym (map_remove (λ (c : NamedColumn). c.kind) rights (column_number rights slots.key))

  pub right_wide : map (kind_of_operand (kinds_of rights)) (right_items lefts rights slots.key) ≡ wide
  right_wide =
      let keyed : List Operand = slice_set (zeros_for lefts) (column_number lefts slots.key) (operand.Column (column_number rights slots.key)) in
      let but : List Operand = remove (columns_from 0 (length rights)) (column_number rights slots.key) in
      map-append (kind_of_operand (kinds_of rights)) keyed (but ++ mark 1 ∷ mark 0 ∷ [])
      ∙ ap (λ (l : List Kind). l ++ map (kind_of_operand (kinds_of rights)) (but ++ mark 1 ∷ mark 0 ∷ []))
      (set_kinds (kinds_of rights) lefts (column_number lefts slots.key) (operand.Column (column_number rights slots.key))
      (kind-column rights slots.key ∙ sym alike ∙ sym (kind-column lefts slots.key)) left_in)
      ∙ ap (λ (l : List Kind). own ++ l) (map-append (kind_of_operand (kinds_of rights)) but (mark 1 ∷ mark 0 ∷ [])
      ∙ ap (λ (l : List Kind). l ++ bit_kind ∷ bit_kind ∷ []) others_kinds)

  -- two lists of kinds and a bit behind them
  bit_behind : (zs : List Kind) → slice_get (own ++ (other ++ bit_kind ∷ zs)) all ≡ Some bit_kind
  bit_behind zs =
      let long = length-append own other in
      let a = own_long in
      let b = other_long in
      let here : all ≡ length (own ++ other) = omega (arith, long, a, b) in
      let apart : own ++ (other ++ bit_kind ∷ zs) ≡ (own ++ other) ++ bit_kind ∷ zs = sym (append_assoc own other (bit_kind ∷ zs)) in
      (λ i. slice_get (apart i) (here i)) ∙ stands_at (own ++ other) bit_kind zs

  pub is_marked : slice_get wide all ≡ Some bit_kind
  is_marked = bit_behind (bit_kind ∷ [])

  pub is_kept : slice_get framed_kinds all ≡ Some bit_kind
  is_kept = bit_behind []

  last_bit : kind_of_column wide (all + 1) ≡ bit_kind
  last_bit =
      let long = length-append own other in
      let longer = length-append (own ++ other) (bit_kind ∷ []) in
      let a = own_long in
      let b = other_long in
      let here : all + 1 ≡ length ((own ++ other) ++ bit_kind ∷ []) = omega (arith, long, longer, a, b) in
      let apart : wide ≡ ((own ++ other) ++ bit_kind ∷ []) ++ bit_kind ∷ [] =
      sym (append_assoc (own ++ other) (bit_kind ∷ []) (bit_kind ∷ []) ∙ append_assoc own other (bit_kind ∷ bit_kind ∷ [])) in
      (λ i. get_or (apart i) (here i) bit_kind) ∙ index_at bit_kind ((own ++ other) ++ bit_kind ∷ []) bit_kind []

  pub frames_kinds : map (kind_of_frame wide) (join_frames lefts rights slots.key) ≡ framed_kinds
  frames_kinds =
      let owns : List PlanFrame = map (λ c. frame.Own (operand.Column c)) (range_with_len 0 (length lefts)) in
      let lasts : List PlanFrame = map (last_marked all) (range_with_len (length lefts) (length (but_key slots.key rights))) in
      let end : List PlanFrame = frame.Own (operand.Column (all + 1)) ∷ [] in
      map-append (kind_of_frame wide) owns (lasts ++ end)
      ∙ ap (λ (l : List Kind). map (kind_of_frame wide) owns ++ l) (map-append (kind_of_frame wide) lasts end)
      ∙ (λ i. own_part i ++ (other_part i ++ last_bit i ∷ []))
    where
      own_part : map (kind_of_frame wide) (map (λ c. frame.Own (operand.Column c)) (range_with_len 0 (length lefts))) ≡ own
      own_part =
          map_map (kind_of_frame wide) (λ c. frame.Own (operand.Column c)) (range_with_len 0 (length lefts))
          ∙ ap (λ n. map (λ c. get_or wide c bit_kind) (range_with_len 0 n)) (sym own_long)
          ∙ picked_back bit_kind [] own (other ++ bit_kind ∷ bit_kind ∷ [])

      other_part : map (kind_of_frame wide) (map (last_marked all) (range_with_len (length lefts) (length (but_key slots.key rights)))) ≡ other
      other_part =
          map_map (kind_of_frame wide) (last_marked all) (range_with_len (length lefts) (length (but_key slots.key rights)))
          ∙ (λ i. map (λ c. get_or wide c bit_kind) (range_with_len (sym own_long i) (sym other_long i)))
          ∙ picked_back bit_kind own other (bit_kind ∷ bit_kind ∷ [])

  pub kept_kinds : map (kind_of_operand framed_kinds) (columns_from 0 all) ≡ kinds_of (lefts ++ but_key slots.key rights)
  kept_kinds =
      let long = length-append own other in
      let a = own_long in
      let b = other_long in
      let here : all ≡ length (own ++ other) = omega (arith, long, a, b) in
      let apart : framed_kinds ≡ (own ++ other) ++ bit_kind ∷ [] = sym (append_assoc own other (bit_kind ∷ [])) in
      (λ i. map (kind_of_operand (apart i)) (columns_from 0 (here i))) ∙ first_kinds (own ++ other) (bit_kind ∷ [])
      ∙ sym (map-append (λ (c : NamedColumn). c.kind) lefts (but_key slots.key rights))

  -- ---- what fits

  pub right_fit : AllByRecursion (OperandFits (kinds_of rights)) (right_items lefts rights slots.key)
  right_fit =
      let kinds = kinds_of rights in
      let long = length-map rights (λ (c : NamedColumn). c.kind) in
      let keyed = set_fits kinds lefts (column_number lefts slots.key) (operand.Column (column_number rights slots.key)) left_kinds (let lt = right_in in omega (arith, long, lt)) in
      let but = all_but (OperandFits kinds) (columns_from 0 (length rights)) (column_number rights slots.key) (columns_fit kinds 0 (length rights) (omega (arith, long))) in
      all_append (OperandFits kinds) (slice_set (zeros_for lefts) (column_number lefts slots.key) (operand.Column (column_number rights slots.key))) _ keyed
      (all_append (OperandFits kinds) (remove (columns_from 0 (length rights)) (column_number rights slots.key)) (mark 1 ∷ mark 0 ∷ []) but (mark_fits kinds, (no_mark_fits kinds, tt)))

  pub left_fit : AllByRecursion (OperandFits own) (left_items lefts rights slots.key)
  left_fit =
      let a = own_long in
      all_append (OperandFits own) (columns_from 0 (length lefts)) _ (columns_fit own 0 (length lefts) (omega (arith, a)))
      (all_append (OperandFits own) (zeros_for (but_key slots.key rights)) (mark 0 ∷ mark 1 ∷ [])
      (zeros_fit own (but_key slots.key rights) (all_but (λ (c : NamedColumn). IsKind c.kind) rights (column_number rights slots.key) right_kinds))
      (no_mark_fits own, (mark_fits own, tt)))

  wide_long : length wide ≡ all + 2
  wide_long =
      let a = own_long in
      let b = other_long in
      let c = length-append own (other ++ bit_kind ∷ bit_kind ∷ []) in
      let d = length-append other (bit_kind ∷ bit_kind ∷ []) in
      omega (arith, a, b, c, d)

  framed_long : length framed_kinds ≡ all + 1
  framed_long =
      let a = own_long in
      let b = other_long in
      let c = length-append own (other ++ bit_kind ∷ []) in
      let d = length-append other (bit_kind ∷ []) in
      omega (arith, a, b, c, d)

  pub key_in : column_number lefts slots.key < length wide
  key_in = let a = wide_long in let lt = left_in in omega (arith, a, lt)

  owns_fit : (from n : ℕ) → from + n ≤ length wide → AllByRecursion (FrameFits wide) (map (λ c. frame.Own (operand.Column c)) (range_with_len from n))
  owns_fit from zero le = tt
  owns_fit from (suc n) le = (omega (arith, le), owns_fit (from + 1) n (omega (arith, le)))

  lasts_fit : (from n : ℕ) → from + n ≤ length wide → AllByRecursion (FrameFits wide) (map (last_marked all) (range_with_len from n))
  lasts_fit from zero le = tt
  lasts_fit from (suc n) le = ((omega (arith, le), is_marked, tt), lasts_fit (from + 1) n (omega (arith, le)))

  pub frames_fit : AllByRecursion (FrameFits wide) (join_frames lefts rights slots.key)
  frames_fit =
      let w = wide_long in
      let last : all + 1 < length wide = omega (arith, w) in
      all_append (FrameFits wide) (map (λ c. frame.Own (operand.Column c)) (range_with_len 0 (length lefts))) _ (owns_fit 0 (length lefts) (omega (arith, w)))
      (all_append (FrameFits wide) (map (last_marked all) (range_with_len (length lefts) (length (but_key slots.key rights)))) (frame.Own (operand.Column (all + 1)) ∷ [])
      (lasts_fit (length lefts) (length (but_key slots.key rights)) (omega (arith, w))) (last, tt))

  owns_fast : (cs : List ℕ) (rest : List PlanFrame) → delay_of_frames wide rest ≡ 1 → delay_of_frames wide (map (λ c. frame.Own (operand.Column c)) cs ++ rest) ≡ 1
  owns_fast [] rest h = h
  owns_fast (c ∷ cs) rest h = ap (λ n. max 1 n) (owns_fast cs rest h)

  lasts_fast : (cs : List ℕ) (rest : List PlanFrame) → delay_of_frames wide rest ≡ 1 → delay_of_frames wide (map (last_marked all) cs ++ rest) ≡ 1
  lasts_fast [] rest h = h
  lasts_fast (c ∷ cs) rest h = ap (λ n. max 1 n) (lasts_fast cs rest h)

  -- the frames take a cycle behind the look-up of the key
  pub delays : delay_by_key wide (Some (join_key lefts slots)) (join_frames lefts rights slots.key) ≡ parted_delay lefts (Some slots) 1
  delays =
      let fast : delay_of_frames wide (join_frames lefts rights slots.key) ≡ 1 = owns_fast (range_with_len 0 (length lefts)) _ (lasts_fast (range_with_len (length lefts) (length (but_key slots.key rights))) (frame.Own (operand.Column (all + 1)) ∷ []) refl) in
      let kind : kind_of_column wide (column_number lefts slots.key) ≡ column_kind lefts slots.key =
      index_front bit_kind own (other ++ bit_kind ∷ bit_kind ∷ []) (column_number lefts slots.key) (let a = own_long in let lt = left_in in omega (arith, a, lt)) ∙ kind-column lefts slots.key in
      λ i. fast i + cycles_of_look_up (width_of (kind i)) slots.groups + 1

  pub kept_fit : AllByRecursion (OperandFits framed_kinds) (columns_from 0 all)
  kept_fit = let w = framed_long in columns_fit framed_kinds 0 all (omega (arith, w))
