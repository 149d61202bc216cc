-- Values as words of another width.
use Rattle.std.proofs.Common.{◌≡◌, ℕ, ◌+◌, ◌-◌, ◌*◌, ◌/◌, ◌%◌, ◌^◌, ◌<◌, ◌≤◌, inl, inr, sym, ap, ◌∙◌, subst, arith}
use Rattle.std.specs.Prelude.{if◌then◌else◌, nat_eq}
use Rattle.std.proofs.Math.Nat.{add-mul-div_right, mod-eq_of_lt, div-eq_of_lt, div-one, mul-one, div-lt_iff_lt-mul}
use Rattle.std.proofs.lemmas.Bool.{cases_lt, le-ltb, lt-ltb}
use Rattle.std.proofs.lemmas.Nat.{pow-add, pow_pos}
use Rattle.gl_values.specs.Kinds.{signed_number, word_of}
use Rattle.gl_bits.specs.Words.{choose_of, cut_of, join_of}
use Rattle.gl_values.proofs.Signs.{half_of, sign_high, sign_low}
use Rattle.gl_bits.proofs.Wrapping.{fits_wider}

-- the highest bits
pub high_cut : (v w x : ℕ) → x < 2 ^ v → 1 ≤ w → w ≤ v → cut_of (v - 1) (v - w) x ≡ x / 2 ^ (v - w) * 2 ^ (w - v)
unfolding cut_of
high_cut v w x fits some le =
    let e : v - 1 + 1 - (v - w) ≡ w = omega (arith, some, le) in
    let n : w - v ≡ 0 = omega (arith, le) in
    let s : w + (v - w) ≡ v = omega (arith, le) in
    let f : x < 2 ^ (w + (v - w)) = subst (λ (k : ℕ). x < 2 ^ k) (sym s) fits in
    let p : x < 2 ^ w * 2 ^ (v - w) = subst (λ (k : ℕ). x < k) (pow-add 2 w (v - w)) f in
    let below : x / 2 ^ (v - w) < 2 ^ w = (div-lt_iff_lt-mul (pow_pos (v - w))).1 p in
    ap (λ (k : ℕ). x / 2 ^ (v - w) % 2 ^ k) e ∙ mod-eq_of_lt below
    ∙ sym (ap (λ (k : ℕ). x / 2 ^ (v - w) * 2 ^ k) n ∙ mul-one (x / 2 ^ (v - w)))

-- all of them, with zero bits below
pub high_join : (v w x : ℕ) → v ≤ w → join_of (w - v) x 0 ≡ x / 2 ^ (v - w) * 2 ^ (w - v)
unfolding join_of
high_join v w x le =
    let n : v - w ≡ 0 = omega (arith, le) in
    let z : x * 2 ^ (w - v) + 0 ≡ x * 2 ^ (w - v) = omega arith in
    z ∙ sym (ap (λ (k : ℕ). x / 2 ^ k * 2 ^ (w - v)) n ∙ ap (λ (k : ℕ). k * 2 ^ (w - v)) (div-one x))

-- the bits from a place on
pub down_cut : (w by x : ℕ) → x < 2 ^ w → by < w → cut_of (w - 1) by x ≡ x / 2 ^ by
unfolding cut_of
down_cut w by x fits near =
    let e : w - 1 + 1 - by ≡ w - by = omega (arith, near) in
    let s : w - by + by ≡ w = omega (arith, near) in
    let f : x < 2 ^ (w - by + by) = subst (λ (k : ℕ). x < 2 ^ k) (sym s) fits in
    let p : x < 2 ^ (w - by) * 2 ^ by = subst (λ (k : ℕ). x < k) (pow-add 2 (w - by) by) f in
    let below : x / 2 ^ by < 2 ^ (w - by) = (div-lt_iff_lt-mul (pow_pos by)).1 p in
    ap (λ (k : ℕ). x / 2 ^ by % 2 ^ k) e ∙ mod-eq_of_lt below

-- the highest bit of a word
top_bit : (w x : ℕ) → 1 ≤ w → cut_of (w - 1) (w - 1) x ≡ x / 2 ^ (w - 1) % 2
unfolding cut_of
top_bit w x some = let e : w - 1 + 1 - (w - 1) ≡ 1 = omega (arith, some) in ap (λ (k : ℕ). x / 2 ^ (w - 1) % 2 ^ k) e

-- bits like the highest one above a word
pub sign_join : (w v x : ℕ) → 1 ≤ w → x < 2 ^ w → w ≤ v
    → join_of w (choose_of (cut_of (w - 1) (w - 1) x) (2 ^ (v - w) - 1) 0) x ≡ word_of v (signed_number w x)
unfolding join_of choose_of
sign_join w v x some fits le = elim (cases_lt x (2 ^ (w - 1))) [
  | inl lt ↦
      let none : x / 2 ^ (w - 1) ≡ 0 = div-eq_of_lt lt in
      let zero : cut_of (w - 1) (w - 1) x ≡ 0 = top_bit w x some ∙ ap (λ (k : ℕ). k % 2) none in
      let alone : 0 * 2 ^ w + x ≡ x = omega arith in
      ap (λ (k : ℕ). (if nat_eq k 1 then 2 ^ (v - w) - 1 else 0) * 2 ^ w + x) zero ∙ alone
      ∙ sign_low w v x (lt-ltb x (2 ^ (w - 1)) lt) (fits_wider x w v fits le)
  | inr ge ↦
      let once : x / 2 ^ (w - 1) ≡ 1 = one_half (2 ^ (w - 1)) x ge (omega (arith, half_of w some, fits)) in
      let one : cut_of (w - 1) (w - 1) x ≡ 1 = top_bit w x some ∙ ap (λ (k : ℕ). k % 2) once in
      ap (λ (k : ℕ). (if nat_eq k 1 then 2 ^ (v - w) - 1 else 0) * 2 ^ w + x) one ∙ sign_high w v x (le-ltb x (2 ^ (w - 1)) ge) fits le
]
  where
    one_half : (h n : ℕ) → h ≤ n → n < h + h → n / h ≡ 1
    one_half h n ge lt =
        let parts : n ≡ n - h + 1 * h = omega (arith, ge) in
        let below : n - h < h = omega (arith, ge, lt) in
        let some : 1 ≤ h = omega (arith, ge, lt) in
        ap (λ (k : ℕ). k / h) parts ∙ add-mul-div_right (n - h) 1 some ∙ ap (λ (k : ℕ). k + 1) (div-eq_of_lt below)
