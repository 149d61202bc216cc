-- How the operations on 128 bits give those of a width.
use Rattle.std.proofs.Common.{◌≡◌, ℕ, ◌+◌, ◌-◌, ◌*◌, ◌/◌, ◌%◌, ◌^◌, ◌<◌, ◌≤◌, ap, ◌∙◌, subst, arith}
use Rattle.std.proofs.Math.Pow.{mod-mod-pow}
use Rattle.std.proofs.Math.Nat.{pow-le-pow_right, mod-eq_of_lt, add-mod_right, div-one}
use Rattle.std.proofs.lemmas.Nat.{shl_whole, pow-add, mul-add-lt}
use Rattle.gl_bits.specs.Words.{IsWord, sum_of, product_of, difference_of, join_of, cut_of}

-- a number that wrapped in 128 bits wraps in fewer as the number itself
pub wraps_within : (n w : ℕ) → w ≤ 128 → n % 2 ^ 128 % 2 ^ w ≡ n % 2 ^ w
wraps_within n w most =
    let e : 128 - w + w ≡ 128 = omega arith in
    subst (λ (k : ℕ). n % 2 ^ k % 2 ^ w ≡ n % 2 ^ w) e (mod-mod-pow n (128 - w) w)

pub sum_wraps : (w x y : ℕ) → w ≤ 128 → (x + y) % 2 ^ 128 % 2 ^ w ≡ sum_of w x y
unfolding sum_of
sum_wraps w x y most = wraps_within (x + y) w most

pub product_wraps : (w x y : ℕ) → w ≤ 128 → (x * y) % 2 ^ 128 % 2 ^ w ≡ product_of w x y
unfolding product_of
product_wraps w x y most = wraps_within (x * y) w most

pub difference_whole : (w x y : ℕ) → x < 2 ^ w → y ≤ x → difference_of w x y ≡ x - y
unfolding difference_of
difference_whole w x y fits le =
    let e : x + (2 ^ w - y) ≡ x - y + 2 ^ w = omega arith in
    let below : x - y < 2 ^ w = omega arith in
    ap (λ (n : ℕ). n % 2 ^ w) e ∙ add-mod_right (x - y) (2 ^ w) ∙ mod-eq_of_lt below

pub difference_wraps : (w g x y : ℕ) → g + 1 ≡ 2 ^ w → y ≤ g → x < y → difference_of w x y ≡ x + (g - y) + 1
unfolding difference_of
difference_wraps w g x y is fits lt =
    let e : x + (2 ^ w - y) ≡ x + (g - y) + 1 = omega arith in
    let below : x + (g - y) + 1 < 2 ^ w = omega arith in
    ap (λ (n : ℕ). n % 2 ^ w) e ∙ mod-eq_of_lt below

-- a number of a width has every greater width
pub fits_wider : (n v w : ℕ) → n < 2 ^ v → v ≤ w → n < 2 ^ w
fits_wider n v w fits le =
    let wider : 2 ^ v ≤ 2 ^ w = pow-le-pow_right {n = 2} (omega arith) le in omega arith

-- 1 has every width
pub one_fits : (w : ℕ) → 1 ≤ w → 1 < 2 ^ w
one_fits w some = pow-le-pow_right {n = 2} (omega arith) {i = 1} some

-- the lowest bits
pub cut_low : (w x : ℕ) → 1 ≤ w → cut_of (w - 1) 0 x ≡ x % 2 ^ w
unfolding cut_of
cut_low w x some =
    let e : w - 1 + 1 - 0 ≡ w = omega (arith, some) in
    ap (λ (n : ℕ). x / 2 ^ 0 % 2 ^ n) e ∙ ap (λ (n : ℕ). n % 2 ^ w) (div-one x)

pub join_whole : (x y j k : ℕ) → x < 2 ^ j → j + k ≤ 128 → x * 2 ^ k % 2 ^ 128 + y ≡ join_of k x y
unfolding join_of
join_whole x y j k high most = ap (λ (n : ℕ). n + y) (shl_whole x j k 128 high most)

pub join_fits : (x y j k : ℕ) → x < 2 ^ j → y < 2 ^ k → join_of k x y < 2 ^ (j + k)
unfolding join_of
join_fits x y j k high low =
    let both : 2 ^ (j + k) ≡ 2 ^ j * 2 ^ k = pow-add 2 j k in
    let place : x * 2 ^ k + y < 2 ^ k * 2 ^ j = mul-add-lt x (2 ^ k) y (2 ^ j) high low in
    omega arith

-- the same number in a width that is not below its own
pub word_wider : (n v w : ℕ) → IsWord (record { bits = n; width = v }) → v ≤ w → w ≤ 128 → IsWord (record { bits = n; width = w })
word_wider n v w word wider most =
    let some : 1 ≤ v = word.width.some' in
    record { width = record { some' = omega arith; most = most }; fits = fits_wider n v w word.fits wider }

-- two words side by side, as the code puts them
pub join_place : (x j y k : ℕ) → IsWord (record { bits = x; width = j }) → IsWord (record { bits = y; width = k }) → j + k ≤ 128 → x * 2 ^ k % 2 ^ 128 + y < 2 ^ (j + k)
join_place x j y k high low most =
    let whole : x * 2 ^ k % 2 ^ 128 + y ≡ join_of k x y = join_whole x y j k high.fits most in
    let fits : join_of k x y < 2 ^ (j + k) = join_fits x y j k high.fits low.fits in
    omega arith

pub word_joined : (x j y k : ℕ) → IsWord (record { bits = x; width = j }) → IsWord (record { bits = y; width = k }) → j + k ≤ 128 → IsWord (record { bits = x * 2 ^ k % 2 ^ 128 + y; width = j + k })
word_joined x j y k high low most =
    let some : 1 ≤ j = high.width.some' in
    record { width = record { some' = omega arith; most = most }; fits = join_place x j y k high low most }
