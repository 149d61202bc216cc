-- How many cycles items take: none takes longer than the slowest, and that is few.
use Rattle.std.proofs.Common.{◌≡◌, ℕ, zero, suc, ◌+◌, ◌^◌, ◌<◌, ◌≤◌, List, [], ◌∷◌, length, get_or, Option, Some, None, Bool, true, false, refl, sym, ap, ◌∙◌, arith, inl, inr}
use Rattle.std.specs.Prelude.{All, if◌then◌else◌, nat_le}
use Rattle.std.proofs.Math.Nat.{le-max_left, le-max_right, pow-suc}
use Rattle.std.proofs.lemmas.Bool.{cases_lt, le-leb, leb-false}
use Rattle.std.proofs.lemmas.Nat.{pow_pos}
use Rattle.gl_algebra.proofs.ExponentLemmas.{exponent_covers}
use Rattle.gl_algebra.specs.Columns.{BackFits, FrameAggFits, FrameFits}
use Rattle.gl_algebra.specs.Frames.{delay_of_count, delay_of_extreme, delay_of_frame, delay_of_frames, delay_of_sum, delay_over, digits_of_rows}
use Rattle.gl_algebra.specs.Rings.{digits, least_exponent}
use Rattle.gl_algebra.specs.declared.node.PlanFrame.{PlanFrame}
use Rattle.gl_algebra.specs.declared.node.PlanFrame.TheVariants.{Lag, Over, Own}
use Rattle.gl_algebra.specs.declared.node.PlanFrameAgg.{PlanFrameAgg}
use Rattle.gl_algebra.specs.declared.node.PlanFrameAgg.TheVariants.{Avg, Count, LastValue, Max, Min, Sum}
use Rattle.gl_frames_wire.proofs.ReachLemmas.{few_exponents}
use Rattle.gl_totals.proofs.KindLemmas.{operand_width}
use Rattle.gl_values.specs.Kinds.{IsKind}
use Rattle.gl_values.specs.declared.kind.Kind.{Kind}
use Rattle.gl_frames_stages.specs.DoublingNets.{DoublingsAreBits, doublings, gap_of}
use Rattle.gl_frames_stages.proofs.DoublingNet.{doublings_done}

-- none takes longer than the slowest
pub item_within : (kinds : List Kind) (items : List PlanFrame) (i : ℕ) (d : PlanFrame) → i < length items → delay_of_frame kinds (get_or items i d) ≤ delay_of_frames kinds items
item_within kinds [] i d lt = absurd (omega (arith, lt))
item_within kinds (item ∷ items) zero d lt = le-max_left (delay_of_frame kinds item) (delay_of_frames kinds items)
item_within kinds (item ∷ items) (suc i) d lt =
    let rest = item_within kinds items i d (omega (arith, lt)) in
    let more = le-max_right (delay_of_frame kinds item) (delay_of_frames kinds items) in
    omega (arith, rest, more)

-- ---- few

pub few_digits : (back : ℕ) → back < 2 ^ 16 → digits (back + 1) ≤ 17
few_digits back lt = few_exponents 17 (back + 1 + 1) 0 (back + 1 + 1) (omega arith) (omega (arith, lt))

pub some_digits : (back : ℕ) → 1 ≤ digits (back + 1)
some_digits back = by (digits (back + 1)) (exponent_covers (back + 1 + 1) 0 (back + 1 + 1) (omega arith))
  where
    by : (n : ℕ) → back + 1 + 1 ≤ 2 ^ n → 1 ≤ n
    by zero le = let one : back + 1 + 1 ≤ 1 = le in absurd (omega (arith, one))
    by (suc n) le = omega arith

rows_few : (back : Option ℕ) → BackFits back → digits_of_rows back ≤ 32
rows_few None fits = omega arith
rows_few (Some back) fits = let few = few_digits back (omega (arith, fits)) in omega (arith, few)

sum_few : (back : Option ℕ) → delay_of_sum back ≤ 3
sum_few None = omega arith
sum_few (Some back) = omega arith

count_few : (by back : Option ℕ) → delay_of_count by back ≤ 3
count_few None back = omega arith
count_few (Some column) back = sum_few back

extreme_few : (back : Option ℕ) → BackFits back → delay_of_extreme back ≤ 33
extreme_few None fits = omega arith
extreme_few (Some back) fits =
    let few : digits back ≤ 16 = few_exponents 16 (back + 1) 0 (back + 1) (omega arith) (omega (arith, fits)) in
    omega (arith, few)

over_few : (kinds : List Kind) (agg : PlanFrameAgg) (by back : Option ℕ) → All IsKind kinds → FrameAggFits kinds agg → BackFits back → delay_over kinds agg by back ≤ 100
over_few kinds Count by back all fits rows = let few = count_few by back in omega (arith, few)
over_few kinds (Sum x) by back all fits rows = let few = sum_few back in omega (arith, few)
over_few kinds (Min x) by back all fits rows = let few = extreme_few back rows in omega (arith, few)
over_few kinds (Max x) by back all fits rows = let few = extreme_few back rows in omega (arith, few)
over_few kinds (Avg x) by back all fits rows =
    let most = operand_width kinds x all fits.0 in
    let bits = rows_few back rows in
    let few = sum_few back in
    omega (arith, most, bits, few)
over_few kinds (LastValue x) by back all fits rows = omega arith

item_few : (kinds : List Kind) (item : PlanFrame) → All IsKind kinds → FrameFits kinds item → delay_of_frame kinds item ≤ 100
item_few kinds (Own x) all fits = omega arith
item_few kinds (Lag x back) all fits = omega arith
item_few kinds (Over agg by back) all fits = over_few kinds agg by back all fits.0 fits.2

pub items_few : (kinds : List Kind) (items : List PlanFrame) → All IsKind kinds → All (FrameFits kinds) items → delay_of_frames kinds items ≤ 100
items_few kinds [] all fit = omega arith
items_few kinds (item ∷ items) all fit =
    let first = item_few kinds item all (fit 0 item (omega arith)) in
    let rest = items_few kinds items all (λ k d lt. fit (suc k) d (omega (arith, lt))) in
    omega (arith, first, rest)

-- a count of all rows is a number, whatever is asked of them
pub count_of_all : (by : Option ℕ) → delay_of_count by None ≡ 1
count_of_all None = refl
count_of_all (Some column) = refl

-- ---- as often as a number has bits

exponent_done : (more exponent depth : ℕ) → depth ≤ 2 ^ exponent → least_exponent more exponent depth ≡ exponent
exponent_done zero e depth le = refl
exponent_done (suc more) e depth le = ap (λ (b : Bool). if b then e else least_exponent more (suc e) depth) (le-leb depth (2 ^ e) le)

levels_are : (more e all : ℕ) → doublings more (2 ^ e) all + e ≡ least_exponent more e all
levels_are zero e all = omega arith
levels_are (suc more) e all = by (nat_le all (2 ^ e)) refl (levels_are more (suc e) all)
  where
    double : 2 ^ suc e ≡ 2 ^ e + 2 ^ e
    double = let p = pow-suc 2 e in omega (arith, p)

    further : 2 ^ e < all → doublings more (2 ^ suc e) all + suc e ≡ least_exponent more (suc e) all
        → suc (doublings more (2 ^ e + gap_of (2 ^ e) all) all) + e ≡ least_exponent more (suc e) all
    further some rest = elim (cases_lt all (2 ^ suc e)) [
      | inl lt ↦ (
          let whole : all ≤ 2 ^ e + gap_of (2 ^ e) all = omega (arith, lt, double, some) in
          let none = doublings_done more (2 ^ e + gap_of (2 ^ e) all) all whole in
          let last = exponent_done more (suc e) all (omega (arith, lt)) in
          omega (arith, none, last)
          )
      | inr ge ↦ (
          let next : 2 ^ e + gap_of (2 ^ e) all ≡ 2 ^ suc e = omega (arith, ge, double) in
          let same = ap (λ n. doublings more n all) next in
          omega (arith, same, rest)
          )
    ]

    by : (b : Bool) → nat_le all (2 ^ e) ≡ b → doublings more (2 ^ suc e) all + suc e ≡ least_exponent more (suc e) all
        → (if b then 0 else suc (doublings more (2 ^ e + gap_of (2 ^ e) all) all)) + e ≡ (if b then e else least_exponent more (suc e) all)
    by true p rest = omega arith
    by false p rest = further (leb-false all (2 ^ e) p) rest

-- no more exponents are tried than the depth asks for
one_more : (more e depth : ℕ) → depth ≤ more + 2 ^ e → least_exponent (suc more) e depth ≡ least_exponent more e depth
one_more zero e depth le = exponent_done 1 e depth (omega (arith, le))
one_more (suc more) e depth le =
    by (nat_le depth (2 ^ e)) (one_more more (suc e) depth (let p = pow-suc 2 e in let q = pow_pos e in omega (arith, le, p, q)))
  where
    by : (b : Bool) → least_exponent (suc more) (suc e) depth ≡ least_exponent more (suc e) depth
        → (if b then e else least_exponent (suc more) (suc e) depth) ≡ (if b then e else least_exponent more (suc e) depth)
    by true rest = refl
    by false rest = rest

pub doublings_bits : DoublingsAreBits
doublings_bits back =
    let e : doublings back (2 ^ 0) (back + 1) + 0 ≡ least_exponent back 0 (back + 1) = levels_are back 0 (back + 1) in
    let same : doublings back 1 (back + 1) ≡ least_exponent back 0 (back + 1) = omega (arith, e) in
    let next : suc back ≡ back + 1 = omega arith in
    same ∙ sym (one_more back 0 (back + 1) (let one : 1 ≤ 2 ^ 0 = omega arith in omega (arith, one))) ∙ ap (λ n. least_exponent n 0 (back + 1)) next
