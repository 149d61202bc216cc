-- The columns that a key and items ask for: they are few, and each is found at its place.
use Rattle.std.proofs.Common.{◌≡◌, ℕ, zero, suc, ◌+◌, ◌*◌, ◌<◌, ◌≤◌, Bool, true, false, List, [], ◌∷◌, Option, Some, None, length, refl, ap, ◌∙◌, arith, eq-eqb, length-append}
use Rattle.std.specs.Prelude.{All, filter, nat_eq, slice_get}
use Rattle.std.specs.List.{AllByRecursion, list_any, range_with_len}
use Rattle.std.proofs.lemmas.List.Elements.{All-from_recursion, recursion_from_All}
use Rattle.gl_bits.proofs.AllLists.{all_append, all_at, all_by_place, all_weaker, get_below}
use Rattle.gl_bits.proofs.Bools.{or_left, or_right}
use Rattle.gl_values.specs.declared.kind.Kind.{Kind}
use Rattle.gl_algebra.specs.Columns.{ConditionFits, FrameAggFits, FrameFits, OperandFits, bit_kind}
use Rattle.gl_algebra.specs.declared.node.Operand.{Operand}
use Rattle.gl_algebra.specs.declared.node.Operand.TheVariants.{Column, Literal, Parameter}
use Rattle.gl_algebra.specs.declared.node.PlanFrame.{PlanFrame}
use Rattle.gl_algebra.specs.declared.node.PlanFrame.TheVariants.{Own, Lag, Over}
use Rattle.gl_algebra.specs.declared.node.PlanFrameAgg.{PlanFrameAgg}
use Rattle.gl_algebra.specs.declared.node.PlanFrameAgg.TheVariants.{Count, Sum, Min, Max, Avg, LastValue}
use Rattle.gl_frames_asked.specs.Among.{is_among, place_among}
use Rattle.gl_frames_asked.specs.Asked.{asked_columns, asks, asks_for, columns_of_condition, columns_of_operand, columns_over, is_asked}
use Rattle.gl_frames_asked.specs.Laws.{ColumnsAreAsked, IsFound}
use Rattle.gl_frames_asked.proofs.BelowLemmas.{among_below, below, below_at, below_same, below_within, length_either, one_of}

-- ---- they are few

one_of_operand : (operand : Operand) → length (columns_of_operand operand) ≤ 1
one_of_operand (Column column) = omega arith
one_of_operand (Literal word kind) = omega arith
one_of_operand (Parameter number kind) = omega arith

one_over : (agg : PlanFrameAgg) → length (columns_over agg) ≤ 1
one_over Count = omega arith
one_over (Sum operand) = one_of_operand operand
one_over (Min operand) = one_of_operand operand
one_over (Max operand) = one_of_operand operand
one_over (Avg operand) = one_of_operand operand
one_over (LastValue operand) = one_of_operand operand

one_of_condition : (filter : Option ℕ) → length (columns_of_condition filter) ≤ 1
one_of_condition None = omega arith
one_of_condition (Some column) = omega arith

two_of_item : (item : PlanFrame) → length (asks item) ≤ 2
two_of_item (Own operand) = let one = one_of_operand operand in omega (arith, one)
two_of_item (Lag operand back) = let one = one_of_operand operand in omega (arith, one)
two_of_item (Over agg filter back) =
    let sum = length-append (columns_over agg) (columns_of_condition filter) in
    let left = one_over agg in let right = one_of_condition filter in omega (arith, sum, left, right)

none_pass : (xs : List ℕ) → filter (λ x. false) xs ≡ []
none_pass [] = refl
none_pass (x ∷ xs) = none_pass xs

of_columns : (columns : List ℕ) (n : ℕ) → length (below (λ x. list_any (nat_eq x) columns) n) ≤ length columns
of_columns [] n = let none = ap length (none_pass (range_with_len 0 n)) in omega (arith, none)
of_columns (column ∷ columns) n =
    let both = length_either (λ x. nat_eq x column) (λ x. list_any (nat_eq x) columns) (range_with_len 0 n) in
    let one = one_of column n in
    let others = of_columns columns n in omega (arith, both, one, others)

of_items : (items : List PlanFrame) (n : ℕ) → length (below (λ x. list_any (asks_for x) items) n) ≤ 2 * length items
of_items [] n = let none = ap length (none_pass (range_with_len 0 n)) in omega (arith, none)
of_items (item ∷ items) n =
    let both = length_either (λ x. asks_for x item) (λ x. list_any (asks_for x) items) (range_with_len 0 n) in
    let own = of_columns (asks item) n in
    let two = two_of_item item in
    let others = of_items items n in omega (arith, both, own, two, others)

few : (n key : ℕ) (items : List PlanFrame) → length (asked_columns n key items) ≤ 1 + 2 * length items
few n key items =
    let both = length_either (λ x. nat_eq x key) (λ x. list_any (asks_for x) items) (range_with_len 0 n) in
    let one = one_of key n in
    let others = of_items items n in omega (arith, both, one, others)

-- ---- one that passes is found

pub found_below : (p : ℕ → Bool) (n column : ℕ) → p column ≡ true → column < n → IsFound (below p n) column
found_below p n column passes lt =
    let place : place_among (below p n) column ≡ length (below p column) =
    ap length (below_same (is_among (below p n)) p column (λ x less. among_below p n x (omega (arith, less, lt)))) in
    let there : slice_get (below p n) (place_among (below p n) column) ≡ Some column =
    ap (slice_get (below p n)) place ∙ below_at p n column passes lt in
    record { within = get_below (below p n) (place_among (below p n) column) column there; there = there }

-- ---- the columns of items that fit are there

module _ (kinds : List Kind) where
  operand_within : (operand : Operand) → OperandFits kinds operand → AllByRecursion (λ x. x < length kinds) (columns_of_operand operand)
  operand_within (Column column) fits = (fits, tt)
  operand_within (Literal word kind) fits = tt
  operand_within (Parameter number kind) fits = tt

  over_within : (agg : PlanFrameAgg) → FrameAggFits kinds agg → AllByRecursion (λ x. x < length kinds) (columns_over agg)
  over_within Count fits = tt
  over_within (Sum operand) fits = operand_within operand fits.0
  over_within (Min operand) fits = operand_within operand fits
  over_within (Max operand) fits = operand_within operand fits
  over_within (Avg operand) fits = operand_within operand fits.0
  over_within (LastValue operand) fits = operand_within operand fits

  condition_within : (filter : Option ℕ) → ConditionFits kinds filter → AllByRecursion (λ x. x < length kinds) (columns_of_condition filter)
  condition_within None fits = tt
  condition_within (Some column) fits = (get_below kinds column bit_kind fits, tt)

  item_within : (item : PlanFrame) → FrameFits kinds item → AllByRecursion (λ x. x < length kinds) (asks item)
  item_within (Own operand) fits = operand_within operand fits
  item_within (Lag operand back) fits = operand_within operand fits.0
  item_within (Over agg filter back) fits =
      all_append (λ x. x < length kinds) (columns_over agg) (columns_of_condition filter) (over_within agg fits.0) (condition_within filter fits.1)

any_at : {A : Type 0} (p : A → Bool) (xs : List A) (i : ℕ) (x : A) → slice_get xs i ≡ Some x → p x ≡ true → list_any p xs ≡ true
any_at p [] i x e h = absurd (cc)
any_at p (y ∷ xs) zero x e h = let same : y ≡ x = cc in or_left (p y) (list_any p xs) (ap p same ∙ h)
any_at p (y ∷ xs) (suc i) x e h = or_right (p y) (list_any p xs) (any_at p xs i x e h)

-- ---- the columns of the key and of each item are found

module _ (kinds : List Kind) (key : ℕ) (items : List PlanFrame) (key_there : key < length kinds) (fit : All (FrameFits kinds) items) where
  pub key_found : IsFound (asked_columns (length kinds) key items) key
  key_found = found_below (is_asked key items) (length kinds) key (or_left (nat_eq key key) (list_any (asks_for key) items) (eq-eqb key key refl)) key_there

  pub items_found : AllByRecursion (λ item. AllByRecursion (IsFound (asked_columns (length kinds) key items)) (asks item)) items
  items_found = all_by_place (λ item. AllByRecursion (IsFound (asked_columns (length kinds) key items)) (asks item)) items
      (λ i item at. all_by_place (IsFound (asked_columns (length kinds) key items)) (asks item) (λ j column own.
      found_below (is_asked key items) (length kinds) column
      (or_right (nat_eq column key) (list_any (asks_for column) items)
      (any_at (asks_for column) items i item at (any_at (nat_eq column) (asks item) j column own (eq-eqb column column refl))))
      (all_at (λ x. x < length kinds) (asks item) j column own
      (item_within kinds item (all_at (FrameFits kinds) items i item at (recursion_from_All (FrameFits kinds) items fit))))))

pub columns_asked : ColumnsAreAsked
columns_asked kinds key items key_there fit = record {
  few = few (length kinds) key items;
  there = All-from_recursion (λ x. x < length kinds) (asked_columns (length kinds) key items) (below_within (is_asked key items) (length kinds));
  key_found = key_found kinds key items key_there fit;
  items_found = All-from_recursion (λ item. All (IsFound (asked_columns (length kinds) key items)) (asks item)) items
      (all_weaker (λ item. AllByRecursion (IsFound (asked_columns (length kinds) key items)) (asks item)) (λ item. All (IsFound (asked_columns (length kinds) key items)) (asks item))
      (λ item found. All-from_recursion (IsFound (asked_columns (length kinds) key items)) (asks item) found) items (items_found kinds key items key_there fit));
}
