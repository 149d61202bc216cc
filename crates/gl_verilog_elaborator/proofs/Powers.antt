-- Numbers of digits against powers of two.
use Rattle.std.proofs.Common.{◌≡◌, ℕ, zero, suc, ◌+◌, ◌-◌, ◌*◌, ◌^◌, ◌/◌, ◌<◌, ◌≤◌, inl, inr, Bool, true, false, cond, List, [], ◌∷◌, ◌++◌, Some, None, refl, sym, ap, subst, ◌∙◌, arith, length, take, drop, get_or, drop-cons, add-one}
use Rattle.std.specs.Prelude.{nat_eq, nat_lt, nat_le, if◌then◌else◌}
use Rattle.std.proofs.lemmas.Bool.{lt-ltb, le-ltb, ltb-false, eq-eqb, ne_eqb, cases_eq, cases_lt}
use Rattle.std.proofs.lemmas.List.{drop_all, take_more}
use Rattle.std.proofs.lemmas.Nat.{pow-add}
use Rattle.std.proofs.Math.Nat.{pow-suc}
use Rattle.gl_verilog.proofs.Fits.{pow_within}
use Rattle.gl_verilog.specs.Resolve as resolve
use Rattle.gl_verilog.specs.Tokens.{digit_of, with_digit, number_from}
use Rattle.gl_verilog_elaborator.specs.Numbers.{value_of, grown}

pub positive_product : (n r : ℕ) → 2 ^ 128 ≤ n * r → 1 ≤ r
positive_product n zero h = absurd (omega (arith, h))
positive_product n (suc r) h = omega arith

pub positive_sum : (s n r d : ℕ) → s ≡ n * r → d < 256 → 2 ^ 128 ≤ s + d → 1 ≤ r
positive_sum s n zero d e small h = absurd (omega (arith, e, h, small))
positive_sum s n (suc r) d e small h = omega arith

pub ruleset positives = (positive_product, positive_sum)

grows : (b : Bool) (radix n d : ℕ) → 1 ≤ radix → n ≤ cond b n (n * radix + d)
grows true radix n d h = omega arith
grows false zero n d h = absurd (omega (arith, h))
grows false (suc r) n d h = grind arith

pub number-grows : (radix : ℕ) (ds : List ℕ) (n : ℕ) → 1 ≤ radix → n ≤ number_from radix n ds
number-grows radix [] n h = omega arith
number-grows radix (d ∷ ds) n h = omega (arith, grows (nat_eq d 95) radix n (digit_of d) h, number-grows radix ds (with_digit radix n d) h)

pub number_next : (radix : ℕ) (ds : List ℕ) (at n m all : ℕ) → at < length ds → m ≡ with_digit radix n (get_or ds at 0) → number_from radix n (drop at ds) ≡ all → number_from radix m (drop (at + 1) ds) ≡ all
number_next radix ds at n m all lt e h =
    rw (e, add-one) (ap (number_from radix n) (sym (drop-cons ds at 0 lt)) ∙ h)

pub number_passes : (radix : ℕ) (ds : List ℕ) (at n all limit : ℕ) → 1 ≤ radix → at < length ds → limit ≤ with_digit radix n (get_or ds at 0) → number_from radix n (drop at ds) ≡ all → limit ≤ all
number_passes radix ds at n all limit r lt e h =
    let z : number_from radix (with_digit radix n (get_or ds at 0)) (drop (suc at) ds) ≡ all = ap (number_from radix n) (sym (drop-cons ds at 0 lt)) ∙ h in
    omega (arith, z, e, number-grows radix (drop (suc at) ds) (with_digit radix n (get_or ds at 0)) r)

pub number_ends : (radix : ℕ) (ds : List ℕ) (at n all : ℕ) → length ds ≤ at → number_from radix n (drop at ds) ≡ all → n ≡ all
number_ends radix ds at n all le h = ap (number_from radix n) (sym (drop_all at ds le)) ∙ h

-- ---- memories

pub bits-none : (words : ℕ) → resolve.address_bits_to 0 words ≡ None
unfolding resolve.address_bits_to
bits-none words = refl

pub bits-here : (most words : ℕ) → (most ≡ 0 → ⊥) → words ≡ 2 ^ most → resolve.address_bits_to most words ≡ Some most
unfolding resolve.address_bits_to
bits-here zero words h e = absurd (h refl)
bits-here (suc j) words h e = rw (eq-eqb words (2 ^ suc j) e) refl

pub bits-below : (most words : ℕ) → (most ≡ 0 → ⊥) → (words ≡ 2 ^ most → ⊥) → resolve.address_bits_to most words ≡ resolve.address_bits_to (most - 1) words
unfolding resolve.address_bits_to
bits-below zero words h e = absurd (h refl)
bits-below (suc j) words h e = rw (ne_eqb words (2 ^ suc j) e) (ap (λ (k : ℕ). resolve.address_bits_to k words) (let z : j ≡ suc j - 1 = omega arith in z))

pub ruleset sizes = (bits-none, bits-here, bits-below)

bits-past : (most words : ℕ) → 2 ^ most < words → resolve.address_bits_to most words ≡ None
unfolding resolve.address_bits_to
bits-past zero words h = refl
bits-past (suc j) words h =
    let step : 2 ^ suc j ≡ 2 ^ j * 2 = pow-suc 2 j in
    let other : words ≡ 2 ^ suc j → ⊥ = λ e. omega (arith, e, h) in
    let less : 2 ^ j < words = omega (arith, step, h) in
    rw (ne_eqb words (2 ^ suc j) other) (bits-past j words less)

pub bits_are : (words : ℕ) → resolve.address_bits_of words ≡ resolve.address_bits_to 32 words
unfolding resolve.address_bits_of
bits_are words = refl

pub bits-far : (n : ℕ) → 2 ^ 32 ≤ n → resolve.address_bits_of (n + 1) ≡ None
bits-far n h = bits_are (n + 1) ∙ bits-past 32 (n + 1) (let z : 2 ^ 32 < n + 1 = omega (arith, h) in z)

pub ruleset words = (bits_are, bits-far)

-- ---- powers of two

pub fits_far : (value size : ℕ) → 128 ≤ size → value < 2 ^ 128 → nat_lt value (2 ^ size) ≡ true
fits_far value size h k = lt-ltb value (2 ^ size) (omega (arith, pow_within 128 size h))

pub limb_fits_far : (limb size : ℕ) → 32 ≤ size → limb < 2 ^ 32 → nat_lt limb (2 ^ size) ≡ true
limb_fits_far limb size h k = lt-ltb limb (2 ^ size) (omega (arith, pow_within 32 size h))

pub few_fit : (n size : ℕ) (few : Bool) → (few ≡ true → n < 2 ^ size) → few ≡ true → nat_lt n (2 ^ size) ≡ true
few_fit n size few h e = lt-ltb n (2 ^ size) (h e)

-- ---- limbs

product_below : (limb radix : ℕ) → radix < 256 → limb * radix ≤ limb * 255
product_below limb radix k = grind arith

pub limb_sum : (limb radix carry : ℕ) → limb < 4294967296 → radix < 256 → carry < 256 → limb * radix + carry < 1099511627776
limb_sum limb radix carry h k c = omega (arith, product_below limb radix k)

pub ruleset limbs = (limb_sum)

pub grown_value : (radix : ℕ) (ls : List ℕ) (carry : ℕ) → value_of (grown radix carry ls) ≡ value_of ls * radix + carry
grown_value radix [] carry = elim (cases_eq carry 0) [
  | inl e ↦ rw (eq-eqb carry 0 e) (omega (arith, e))
  | inr d ↦ rw (ne_eqb carry 0 d) (omega arith)
]
grown_value radix (l ∷ ls) carry =
    let s : ℕ = l * radix + carry in
    let rest : value_of (grown radix (s / 4294967296) ls) ≡ value_of ls * radix + s / 4294967296 = grown_value radix ls (s / 4294967296) in
    let parts : (l + 4294967296 * value_of ls) * radix ≡ l * radix + 4294967296 * (value_of ls * radix) = grind arith in
    omega (arith, rest, parts)

-- a limb more, or less
pub below_next : (l v left : ℕ) → l < 4294967296 → l < 2 ^ left → nat_lt (l + 4294967296 * v) (2 ^ left) ≡ nat_lt v (2 ^ (left - 32))
below_next l v left h k = elim (cases_lt left 32) [
  | inl s ↦ (let e : left - 32 ≡ 0 = omega arith in subst (λ (n : ℕ). nat_lt (l + 4294967296 * v) (2 ^ left) ≡ nat_lt v (2 ^ n)) (sym e) (short v (pow_within left 32 (omega arith))))
  | inr g ↦ long' (left - 32) (omega arith)
]
  where
    short : (v : ℕ) → 2 ^ left ≤ 4294967296 → nat_lt (l + 4294967296 * v) (2 ^ left) ≡ nat_lt v 1
    short zero p = lt-ltb (l + 0) (2 ^ left) (omega (arith, k))
    short (suc v) p = le-ltb (l + 4294967296 * suc v) (2 ^ left) (omega (arith, p)) ∙ sym (le-ltb (suc v) 1 (omega arith))

    long' : (n : ℕ) → left ≡ n + 32 → nat_lt (l + 4294967296 * v) (2 ^ left) ≡ nat_lt v (2 ^ (left - 32))
    long' n e =
        let p : 2 ^ left ≡ 2 ^ n * 4294967296 = ap (λ (m : ℕ). 2 ^ m) e ∙ pow-add 2 n 32 in
        let q : 2 ^ (left - 32) ≡ 2 ^ n = ap (λ (m : ℕ). 2 ^ m) (let z : left - 32 ≡ n = omega arith in z) in
        elim (cases_lt v (2 ^ n)) [
          | inl lt ↦ lt-ltb (l + 4294967296 * v) (2 ^ left) (omega (arith, p)) ∙ sym (lt-ltb v (2 ^ (left - 32)) (omega (arith, q)))
          | inr ge ↦ le-ltb (l + 4294967296 * v) (2 ^ left) (omega (arith, p)) ∙ sym (le-ltb v (2 ^ (left - 32)) (omega (arith, q)))
        ]

pub below_past : (l v left : ℕ) → 2 ^ left ≤ l → nat_lt (l + 4294967296 * v) (2 ^ left) ≡ false
below_past l v left h = le-ltb (l + 4294967296 * v) (2 ^ left) (omega (arith, h))

-- ---- few digits

pub number_push : (radix : ℕ) (ds : List ℕ) (n d : ℕ) → number_from radix n (ds ++ d ∷ []) ≡ with_digit radix (number_from radix n ds) d
number_push radix [] n d = refl
number_push radix (x ∷ ds) n d = number_push radix ds (with_digit radix n x) d

pub digit_small : (b : ℕ) → b < 256 → digit_of b < 256
digit_small b h = by (nat_le b 57) (nat_le b 70)
  where
    by : (p q : Bool) → (if p then b - 48 else (if q then b - 55 else b - 87)) < 256
    by true q = omega arith
    by false true = omega arith
    by false false = omega arith

digit_grows : (t : Bool) (radix n d p : ℕ) → n < p → radix < 256 → d < 256 → (if t then n else n * radix + d) < p * 256
digit_grows true radix n d p h k c = omega arith
digit_grows false radix n d p h k c = omega (arith, product_below n radix k)

pub few_next : (radix : ℕ) (ds : List ℕ) (i b bits : ℕ) → i < length ds → b ≡ get_or ds i 0 → radix < 256 → b < 256 → number_from radix 0 (take i ds) < 2 ^ bits → number_from radix 0 (take (i + 1) ds) < 2 ^ (bits + 8)
few_next radix ds i b bits lt e r h k =
    let p : 2 ^ (bits + 8) ≡ 2 ^ bits * 256 = pow-add 2 bits 8 in
    let n : number_from radix 0 (take (i + 1) ds) ≡ with_digit radix (number_from radix 0 (take i ds)) b =
    ap (number_from radix 0) (take_more ds i 0 lt ∙ ap (λ (x : ℕ). take i ds ++ x ∷ []) (sym e)) ∙ number_push radix (take i ds) 0 b in
    let g : with_digit radix (number_from radix 0 (take i ds)) b < 2 ^ bits * 256 = digit_grows (nat_eq b 95) radix (number_from radix 0 (take i ds)) (digit_of b) (2 ^ bits) k r (digit_small b h) in
    omega (arith, p, n, g)

pub taken : (radix : ℕ) (ls more : List ℕ) (b d : ℕ) → nat_eq b 95 ≡ false → d ≡ digit_of b → more ≡ grown radix d ls → value_of more ≡ with_digit radix (value_of ls) b
taken radix ls more b d e f h = ap value_of h ∙ grown_value radix ls d ∙ rw e (ap (λ (n : ℕ). value_of ls * radix + n) f)

pub passed_power : (radix : ℕ) (ds : List ℕ) (at n m size : ℕ) → 0 < radix → at < length ds → m ≡ with_digit radix n (get_or ds at 0) → number_from radix n (drop at ds) ≡ number_from radix 0 ds → false ≡ nat_lt m (2 ^ size) → false ≡ nat_lt (number_from radix 0 ds) (2 ^ size)
passed_power radix ds at n m size r lt e h f =
    sym (le-ltb (number_from radix 0 ds) (2 ^ size) (number_passes radix ds at n (number_from radix 0 ds) (2 ^ size) (omega (arith, r)) lt (let g : 2 ^ size ≤ m = ltb-false m (2 ^ size) (sym f) in omega (arith, g, e)) h))
