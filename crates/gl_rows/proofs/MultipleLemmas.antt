-- A product by the sum or the difference of two words is that of the products.
use Rattle.std.proofs.Common.{◌≡◌, ℕ, ◌+◌, ◌-◌, ◌*◌, ◌/◌, ◌%◌, ◌^◌, ◌<◌, sym, ap, subst, ◌∙◌, arith}
use Rattle.std.proofs.Math.Nat.{add-mod-mod, add-mod_right, add-mul-mod_self_right, mod-add-mod, mod-eq_of_lt, mod-lt}
use Rattle.std.proofs.lemmas.Nat.{div-add-mod', mul-mod_second, pow_pos}
use Rattle.gl_bits.specs.Words.{difference_of, product_of, sum_of}

-- what is left of a word, and what was taken
pub with_rest : (w x r : ℕ) → x < 2 ^ w → r < 2 ^ w → sum_of w r (difference_of w x r) ≡ x
unfolding sum_of difference_of
with_rest w x r whole fits =
    let e : r + (x + (2 ^ w - r)) ≡ x + 2 ^ w = omega (arith, fits) in
    add-mod-mod r (x + (2 ^ w - r)) (2 ^ w) ∙ ap (λ (n : ℕ). n % 2 ^ w) e ∙ add-mod_right x (2 ^ w) ∙ mod-eq_of_lt whole

-- a word with something more, without that
pub without_more : (w x l : ℕ) → x < 2 ^ w → l < 2 ^ w → difference_of w (sum_of w x l) l ≡ x
unfolding sum_of difference_of
without_more w x l whole fits =
    let e : x + l + (2 ^ w - l) ≡ x + 2 ^ w = omega (arith, fits) in
    mod-add-mod (x + l) (2 ^ w) (2 ^ w - l) ∙ ap (λ (n : ℕ). n % 2 ^ w) e ∙ add-mod_right x (2 ^ w) ∙ mod-eq_of_lt whole

pub sum_multiplied : (w v a b : ℕ) → sum_of w (product_of w v a) (product_of w v b) ≡ product_of w v (sum_of w a b)
unfolding sum_of product_of
sum_multiplied w v a b =
    let e : v * a + v * b ≡ v * (a + b) = omega arith in
    mod-add-mod (v * a) (2 ^ w) (v * b % 2 ^ w) ∙ add-mod-mod (v * a) (v * b) (2 ^ w) ∙ ap (λ (n : ℕ). n % 2 ^ w) e ∙ sym (mul-mod_second v (a + b) (2 ^ w))

-- two numbers that multiples of m make equal
apart : (m j k x y : ℕ) → x + j * m ≡ y + k * m → x % m ≡ y % m
apart m j k x y e = sym (add-mul-mod_self_right x j m) ∙ ap (λ (n : ℕ). n % m) e ∙ add-mul-mod_self_right y k m

counted : (p m r whole y q k : ℕ) → r < m → y + q ≡ p + whole → k + r ≡ q → p + (m - r) + whole ≡ y + (m + k)
counted p m r whole y q k lt e f = omega (arith, lt, e, f)

spread : (v a b d m : ℕ) → d + b ≡ m → v * (a + d) + v * b ≡ v * a + v * m
spread v a b d m e =
    let wide : v * (a + d) + v * b ≡ v * a + v * (d + b) = omega arith in
    wide ∙ ap (λ (n : ℕ). v * a + v * n) e

pub difference_multiplied : (w v a b : ℕ) → b < 2 ^ w → difference_of w (product_of w v a) (product_of w v b) ≡ product_of w v (difference_of w a b)
unfolding difference_of product_of
difference_multiplied w v a b fits =
    let m = 2 ^ w in
    let q = v * b in
    let back : m - b + b ≡ m = omega (arith, fits) in
    let within : q % m < m = mod-lt q (pow_pos w) in
    let same : v * a + (m - q % m) + v * m ≡ v * (a + (m - b)) + (m + q / m * m) =
    counted (v * a) m (q % m) (v * m) (v * (a + (m - b))) q (q / m * m) within (spread v a b (m - b) m back) (div-add-mod' q m) in
    let more : m + q / m * m ≡ (1 + q / m) * m = omega arith in
    mod-add-mod (v * a) m (m - q % m) ∙ apart m v (1 + q / m) (v * a + (m - q % m)) (v * (a + (m - b))) (same ∙ ap (λ (n : ℕ). v * (a + (m - b)) + n) more)
    ∙ sym (mul-mod_second v (a + (m - b)) m)

-- a product by 1
pub product_one : (w v n : ℕ) → n ≡ 1 → v < 2 ^ w → v ≡ product_of w v n
unfolding product_of
product_one w v n one fits =
    let e : v * n ≡ v * 1 = ap (λ (k : ℕ). v * k) one in
    let f : v * 1 ≡ v = omega arith in
    sym (ap (λ (k : ℕ). k % 2 ^ w) (e ∙ f) ∙ mod-eq_of_lt fits)

-- a difference is a word
pub difference_fits : (w x y n : ℕ) → n ≡ difference_of w x y → n < 2 ^ w
unfolding difference_of
difference_fits w x y n e = subst (λ (k : ℕ). k < 2 ^ w) (sym e) (mod-lt (x + (2 ^ w - y)) (pow_pos w))

pub product_turned : (w x y : ℕ) → product_of w x y ≡ product_of w y x
unfolding product_of
product_turned w x y = let e : x * y ≡ y * x = omega arith in ap (λ (n : ℕ). n % 2 ^ w) e
