-- The highest bit of a word, and the word one place higher.
use Rattle.std.proofs.Common.{◌≡◌, ℕ, suc, ◌+◌, ◌-◌, ◌*◌, ◌/◌, ◌%◌, ◌^◌, ◌<◌, ◌≤◌, Bool, true, false, sym, ap, ◌∙◌, arith}
use Rattle.std.specs.Prelude.{nat_eq}
use Rattle.std.proofs.Math.Nat.{add-mod_right, add-mul-mod_self_right, div-eq_of_lt, div-eq_of_lt-le, div-one, mod-eq_of_lt, mod-lt, mul-add-mod_self_left, two-pow-succ}
use Rattle.std.proofs.lemmas.Nat.{div-add-mod', pow_pos}
use Rattle.gl_bits.proofs.Bools.{bit_fits}
use Rattle.gl_bits.specs.Words.{bit, cut_of, join_of}
use Rattle.gl_divide.specs.Division.{highest, with_bit}

cut_top : (v w x : ℕ) → v ≡ suc w → cut_of (v - 1) (v - 1) x ≡ x / 2 ^ w % 2
unfolding cut_of
cut_top v w x e =
    let d : v - 1 ≡ w = omega arith in
    let one : w + 1 - w ≡ 1 = omega arith in
    ap (λ (n : ℕ). x / 2 ^ n % 2 ^ (n + 1 - n)) d ∙ ap (λ (n : ℕ). x / 2 ^ w % 2 ^ n) one

pub highest_none : (v w x : ℕ) → v ≡ suc w → x < 2 ^ w → highest v x ≡ false
unfolding highest
highest_none v w x e lt = ap (λ (n : ℕ). nat_eq n 1) (cut_top v w x e ∙ ap (λ (n : ℕ). n % 2) (div-eq_of_lt lt))

pub highest_some : (v w x y : ℕ) → v ≡ suc w → x ≡ 2 ^ w + y → y < 2 ^ w → highest v x ≡ true
unfolding highest
highest_some v w x y e is lt =
    let q : x / 2 ^ w ≡ 1 = div-eq_of_lt-le {k = 1} (2 ^ w) (omega arith) (omega arith) in
    ap (λ (n : ℕ). nat_eq n 1) (cut_top v w x e ∙ ap (λ (n : ℕ). n % 2) q)

pub width_double : (v w : ℕ) → v ≡ suc w → 2 ^ v ≡ 2 ^ w + 2 ^ w
width_double v w e = ap (λ (n : ℕ). 2 ^ n) e ∙ two-pow-succ w

pub with_bit_none : (v w x : ℕ) (b : Bool) → v ≡ suc w → x < 2 ^ w → with_bit v x b ≡ 2 * x + bit b
unfolding with_bit
with_bit_none v w x b e lt =
    let double : 2 ^ v ≡ 2 ^ w + 2 ^ w = width_double v w e in
    let small : bit b < 2 ^ 1 = bit_fits b in
    let below : 2 * x + bit b < 2 ^ v = omega arith in
    mod-eq_of_lt below

pub with_bit_some : (v w x y : ℕ) (b : Bool) → v ≡ suc w → x ≡ 2 ^ w + y → y < 2 ^ w → with_bit v x b ≡ 2 * y + bit b
unfolding with_bit
with_bit_some v w x y b e is lt =
    let double : 2 ^ v ≡ 2 ^ w + 2 ^ w = width_double v w e in
    let small : bit b < 2 ^ 1 = bit_fits b in
    let below : 2 * y + bit b < 2 ^ v = omega arith in
    let over : 2 * x + bit b ≡ 2 * y + bit b + 2 ^ v = omega arith in
    ap (λ (n : ℕ). n % 2 ^ v) over ∙ add-mod_right (2 * y + bit b) (2 ^ v) ∙ mod-eq_of_lt below

-- a word of one bit gives way to the bit behind it
pub with_bit_one : (x : ℕ) (b : Bool) → with_bit 1 x b ≡ bit b
unfolding with_bit
with_bit_one x b = mul-add-mod_self_left 2 x (bit b) ∙ mod-eq_of_lt (bit_fits b)

-- the lower bits of a longer word, with a bit behind them
pub with_bit_more : (w x : ℕ) (b : Bool) → 2 ≤ w → join_of 1 (cut_of (w - 2) 0 x) (bit b) ≡ with_bit w x b
unfolding with_bit join_of cut_of
with_bit_more w x b some =
    let v = w - 1 in
    let low : w - 2 + 1 - 0 ≡ v = omega arith in
    let e : w ≡ suc v = omega arith in
    let double : 2 ^ w ≡ 2 ^ v + 2 ^ v = width_double w v e in
    let q = x / 2 ^ v in
    let r = x % 2 ^ v in
    let whole : q * 2 ^ v + r ≡ x = div-add-mod' x (2 ^ v) in
    let small : bit b < 2 ^ 1 = bit_fits b in
    let r_fits : r < 2 ^ v = mod-lt x (pow_pos v) in
    let below : r * 2 + bit b < 2 ^ w = omega arith in
    let parts : q * (2 ^ v + 2 ^ v) ≡ 2 * (q * 2 ^ v) = omega arith in
    let high : q * 2 ^ w ≡ 2 * (q * 2 ^ v) = ap (λ (n : ℕ). q * n) double ∙ parts in
    let over : 2 * x + bit b ≡ r * 2 + bit b + q * 2 ^ w = omega (arith, whole, high) in
    ap (λ (n : ℕ). x / 2 ^ 0 % 2 ^ n * 2 + bit b) low ∙ ap (λ (n : ℕ). n % 2 ^ v * 2 + bit b) (div-one x)
    ∙ sym (ap (λ (n : ℕ). n % 2 ^ w) over ∙ add-mul-mod_self_right (r * 2 + bit b) q (2 ^ w) ∙ mod-eq_of_lt below)

-- zero bits above a word
pub none_above : (w x : ℕ) → join_of w 0 x ≡ x
unfolding join_of
none_above w x = omega arith
