-- The slots of a key, the places of rings and the cycles that rows wait are what frames of each key ask for.
use Rattle.std.proofs.Common.{◌≡◌, ℕ, suc, ◌+◌, ◌*◌, ◌^◌, ◌<◌, ◌≤◌, List, [], ◌∷◌, length, Option, Some, None, Bool, true, false, All, refl, arith}
use Rattle.std.specs.Prelude.{if◌then◌else◌, nat_le, nat_lt}
use Rattle.std.proofs.lemmas.Bool.{leb-false, leb-true, ltb-true}
use Rattle.gl_algebra.proofs.ExponentLemmas.{exponent_covers, few_exponents}
use Rattle.gl_algebra.specs.Columns.{BackFits, FrameFits}
use Rattle.gl_algebra.specs.Keys.{by_look_up, cycles_of_look_up, levels_of, weight_of_look_up, width_of_key}
use Rattle.gl_algebra.specs.Rings.{least_exponent}
use Rattle.gl_algebra.specs.declared.node.PlanFrame.{PlanFrame}
use Rattle.gl_algebra.specs.declared.node.PlanFrame.TheVariants.{Lag, Over, Own}
use Rattle.gl_algebra.specs.declared.node.PlanKey.{PlanKey}
use Rattle.gl_bits.specs.Words.{IsWidth}
use Rattle.gl_bits.proofs.Bools.{and_left, and_right, else_false}
use Rattle.gl_values.specs.declared.kind.Kind.{Kind}
use Rattle.gl_frames_stages.proofs.LevelCosts.{few_places}
use Rattle.gl_frames_wire.proofs.ReachLemmas.{from_exponent}
use Rattle.gl_frames_wire.specs.Reaches.{IsPlaceWidth, place_bits}
use Rattle.gl_frames_parted.specs.Parted.{cycles_to_slot, has_map, has_tree, place_of_frame, place_over, places_of_frames}

-- ---- the look-up

-- it is one of three
of_three : (P : ℕ → Type 0) (width groups of_map of_slots of_tree : ℕ) → P of_map → P of_slots → (10 < width → P of_tree) → P (by_look_up width groups of_map of_slots of_tree)
of_three P width groups of_map of_slots of_tree map slots tree = by (nat_le width 10) (nat_le groups 64) refl
  where
    by : (few small : Bool) → nat_le width 10 ≡ few → P (if few then of_map else (if small then of_slots else of_tree))
    by true small p = map
    by false true p = slots
    by false false p = tree (leb-false width 10 p)

-- it takes some cycles
pub cycles_some : (width groups : ℕ) → 2 ≤ cycles_of_look_up width groups
cycles_some width groups = of_three (λ n. 2 ≤ n) width groups 3 2 (levels_of width) (omega arith) (omega arith) (λ wide. omega (arith, wide))

-- a tree has many slots and few columns, and is counted as one
pub tree_many : (kinds : List Kind) (by : PlanKey) → has_tree kinds by ≡ true → 64 < by.groups
tree_many kinds by is = ltb-true 64 by.groups (and_left (nat_lt 64 by.groups) (nat_le (length kinds) 50) is)

pub tree_few : (kinds : List Kind) (by : PlanKey) → has_tree kinds by ≡ true → length kinds ≤ 50
tree_few kinds by is = leb-true (length kinds) 50 (and_right (nat_lt 64 by.groups) (nat_le (length kinds) 50) is)

pub tree_counted : (kinds : List Kind) (by : PlanKey) → has_tree kinds by ≡ true → nat_le by.groups 64 ≡ false
tree_counted kinds by is =
    let many = tree_many kinds by is in
    else_false (nat_le by.groups 64) (λ e. (let le = leb-true by.groups 64 e in omega (arith, many, le)))

-- a longer key has some levels
levels_some : (kinds : List Kind) (by : PlanKey) → has_map kinds by ≡ false → 2 ≤ levels_of (width_of_key kinds by)
levels_some kinds by is = let wide = leb-false (width_of_key kinds by) 10 is in omega (arith, wide)

-- a slot is found no later than the plan counts
soon : (few many small : Bool) (levels : ℕ) → (many ≡ true → small ≡ false) → (few ≡ false → 2 ≤ levels)
    → (if few then 3 else (if many then levels else 2)) ≤ (if few then 3 else (if small then 2 else levels))
soon true many small levels p q = omega arith
soon false true true levels p q = absurd (let z = p refl in cc)
soon false true false levels p q = omega arith
soon false false true levels p q = omega arith
soon false false false levels p q = q refl

pub slot_soon : (kinds : List Kind) (by : PlanKey) → cycles_to_slot kinds by ≤ cycles_of_look_up (width_of_key kinds by) by.groups
slot_soon kinds by = soon (has_map kinds by) (has_tree kinds by) (nat_le by.groups 64) (levels_of (width_of_key kinds by)) (tree_counted kinds by) (levels_some kinds by)

-- and in some cycles
some_cycles : (few many : Bool) (levels : ℕ) → (few ≡ false → 2 ≤ levels) → 2 ≤ (if few then 3 else (if many then levels else 2))
some_cycles true many levels q = omega arith
some_cycles false true levels q = q refl
some_cycles false false levels q = omega arith

pub slot_some : (kinds : List Kind) (by : PlanKey) → 2 ≤ cycles_to_slot kinds by
slot_some kinds by = some_cycles (has_map kinds by) (has_tree kinds by) (levels_of (width_of_key kinds by)) (levels_some kinds by)

-- and rows do not wait long
pub wait_few : (width groups : ℕ) → width ≤ 64 → cycles_of_look_up width groups ≤ 32
wait_few width groups narrow = of_three (λ n. n ≤ 32) width groups 3 2 (levels_of width) (omega arith) (omega arith) (λ wide. omega (arith, narrow))

-- that of all slots weighs no more than the plan counts for any
pub look_up_weighs : (width groups : ℕ) → 16 * groups + 96 ≤ weight_of_look_up width groups
look_up_weighs width groups =
    let rest = of_three (λ n. 96 ≤ n) width groups 160 96 (80 * levels_of width) (omega arith) (omega arith) (λ wide. omega (arith, wide)) in
    omega (arith, rest)

-- ---- the slots

pub slot_few : (groups : ℕ) → groups ≤ 4096 → least_exponent groups 1 groups ≤ 12
slot_few groups few = few_exponents 12 groups 1 groups (omega arith) (omega (arith, few))

pub slot_width : (groups : ℕ) → groups ≤ 4096 → IsWidth (least_exponent groups 1 groups)
slot_width groups few = record { some' = from_exponent groups 1 groups; most = (let most = slot_few groups few in omega (arith, most)) }

pub slots_fit : (groups : ℕ) → groups ≤ 2 ^ least_exponent groups 1 groups
slots_fit groups = exponent_covers groups 1 groups (omega arith)

-- ---- the places of rings

place_some : (back : ℕ) → 1 ≤ place_bits back
place_some back = from_exponent (back + 1) 1 (back + 1)

over_some : (back : Option ℕ) → 1 ≤ place_over back
over_some None = omega arith
over_some (Some back) = place_some (back + 1)

over_few : (back : Option ℕ) → BackFits back → place_over back ≤ 17
over_few None fits = omega arith
over_few (Some back) fits = few_places (back + 1) (omega (arith, fits))

frame_few : (kinds : List Kind) (item : PlanFrame) → FrameFits kinds item → place_of_frame item ≤ 17
frame_few kinds (Own operand) fits = omega arith
frame_few kinds (Lag operand back) fits = let lt = fits.2 in few_places back (omega (arith, lt))
frame_few kinds (Over agg filter back) fits = over_few back fits.2

places_some : (items : List PlanFrame) → 1 ≤ places_of_frames items
places_some [] = omega arith
places_some (item ∷ items) = let rest = places_some items in omega (arith, rest)

places_few : (kinds : List Kind) (items : List PlanFrame) → All (FrameFits kinds) items → places_of_frames items ≤ 17
places_few kinds [] fit = omega arith
places_few kinds (item ∷ items) fit =
    let first = frame_few kinds item (fit 0 item (omega arith)) in
    let rest = places_few kinds items (λ k d lt. fit (suc k) d (omega (arith, lt))) in
    omega (arith, first, rest)

pub places_fit : (kinds : List Kind) (items : List PlanFrame) → All (FrameFits kinds) items → IsPlaceWidth (places_of_frames items)
places_fit kinds items fit = record { some' = places_some items; most = places_few kinds items fit }
