-- Numbers that rotate over copies, and the first slices of a list.
use Rattle.std.proofs.Common.{◌≡◌, ℕ, zero, suc, ◌+◌, ◌*◌, ◌/◌, ◌%◌, ◌<◌, ◌≤◌, List, [], ◌∷◌, ◌++◌, length, take, drop, Some, refl, sym, ap, ◌∙◌, subst, arith, inl, inr, mul-le-mul_right, length-append, length-drop}
use Rattle.std.specs.Prelude.{slice_get}
use Rattle.std.proofs.lemmas.Bool.{cases_lt}
use Rattle.std.proofs.lemmas.List.{drop-append-le, take-append-le}
use Rattle.std.proofs.lemmas.Nat.{div-add-mod', mod-mul-add, mod_below}
use Rattle.gl_values.specs.Lists.{part, slices}
use Rattle.gl_algebra.proofs.ListLemmas.{get-append}
use Rattle.gl_bits.proofs.AllLists.{get_last, get_past}
use Rattle.gl_values.proofs.Slicing.{get-slices, slice_at-some, slice_at-none, same_by_gets}
use Rattle.gl_windows.specs.Firsts.{firsts}

-- numbers less than count apart have different remainders
pub mod_apart : (count w v : ℕ) → w < v → v < w + count → w % count ≡ v % count → ⊥
mod_apart count w v l m e =
    let x = div-add-mod' w count in let y = div-add-mod' v count in
    elim (cases_lt (w / count) (v / count)) [
      | inl p ↦ (let z : suc (w / count) * count ≤ v / count * count = mul-le-mul_right count p in omega (arith, x, y, z, e, m))
      | inr p ↦ (let z : v / count * count ≤ w / count * count = mul-le-mul_right count p in omega (arith, x, y, z, e, l))
    ]

-- each remainder is that of one of any count numbers in a row
pub mod_hits : (count base k : ℕ) → k < count → (w : ℕ) × (base ≤ w) × (w < base + count) × (w % count ≡ k)
mod_hits count base k l =
    let is : base / count * count + base % count ≡ base = div-add-mod' base count in
    let low : base % count < count = mod_below base count (omega (arith, l)) in
    elim (cases_lt k (base % count)) [
      | inl m ↦ (let e : suc (base / count) * count + k ≡ base / count * count + count + k = omega arith in (suc (base / count) * count + k, omega (arith, e, is, low), omega (arith, e, is, m), mod-mul-add (suc (base / count)) count k l))
      | inr m ↦ (base / count * count + k, omega (arith, is, m), omega (arith, is, l), mod-mul-add (base / count) count k l)
    ]

-- a part that is full stays as the list grows
pub part-grown : {A : Type 0} (size from : ℕ) (xs ys : List A) → from + size ≤ length xs → part size from (xs ++ ys) ≡ part size from xs
part-grown size from xs ys h =
    ap (take size) (drop-append-le from xs ys (omega (arith, h)))
    ∙ take-append-le size (drop from xs) ys (omega (arith, h, length-drop from xs))

pub firsts-grown : {A : Type 0} (size advance d : ℕ) (xs ys : List A) → ((j : ℕ) → j < d → j * advance + size ≤ length xs) → firsts size advance d (xs ++ ys) ≡ firsts size advance d xs
firsts-grown size advance zero xs ys h = refl
firsts-grown size advance (suc d) xs ys h =
    rw (firsts-grown size advance d xs ys (λ j l. h j (omega (arith, l))), part-grown size (d * advance) xs ys (h d (omega arith))) refl

length-firsts : {A : Type 0} (size advance d : ℕ) (xs : List A) → length (firsts size advance d xs) ≡ d
length-firsts size advance zero xs = refl
length-firsts size advance (suc d) xs = length-append (firsts size advance d xs) (part size (d * advance) xs ∷ []) ∙ omega (arith, length-firsts size advance d xs)

get-firsts : {A : Type 0} (size advance d : ℕ) (xs : List A) (j : ℕ) → j < d → slice_get (firsts size advance d xs) j ≡ Some (part size (j * advance) xs)
get-firsts size advance zero xs j l = absurd (omega (arith, l))
get-firsts size advance (suc d) xs j l = elim (cases_lt j d) [
  | inl m ↦ get-append (firsts size advance d xs) (part size (d * advance) xs ∷ []) j (omega (arith, m, length-firsts size advance d xs)) ∙ get-firsts size advance d xs j m
  | inr m ↦ (let e : j ≡ d = omega (arith, l, m) in subst (λ i. slice_get (firsts size advance (suc d) xs) i ≡ Some (part size (i * advance) xs)) (sym e) (ap (slice_get (firsts size advance (suc d) xs)) (sym (length-firsts size advance d xs)) ∙ get_last (firsts size advance d xs) (part size (d * advance) xs)))
]

-- the first parts are all slices where as many begin in the list
pub firsts-slices : {A : Type 0} (size advance q : ℕ) (xs : List A) → 1 ≤ advance → length xs ≤ q * advance → ((j : ℕ) → j < q → j * advance < length xs) → firsts size advance q xs ≡ slices size advance xs
firsts-slices size advance q xs some all place = same_by_gets _ _ (λ j. elim (cases_lt j q) [
  | inl l ↦ get-firsts size advance q xs j l ∙ sym (get-slices size advance xs j some ∙ slice_at-some size advance xs j (place j l))
  | inr l ↦ (let z : q * advance ≤ j * advance = mul-le-mul_right advance l in
      get_past (firsts size advance q xs) j (omega (arith, l, length-firsts size advance q xs)) ∙ sym (get-slices size advance xs j some ∙ slice_at-none size advance xs j (omega (arith, z, all))))
])
