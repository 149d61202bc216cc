-- What the loops over values keep.
use Rattle.std.proofs.Common.{◌≡◌, ℕ, zero, suc, ◌+◌, ◌-◌, ◌/◌, ◌%◌, ◌^◌, ◌<◌, ◌≤◌, Bool, true, false, List, [], ◌∷◌, length, take, get_or, refl, sym, ap, ◌∙◌, arith, take_all, ne_eqb, ◌⊎◌, inl, inr}
use Rattle.std.specs.Prelude.{sum, fold, map, ◌≢◌, ℤ, pos, neg_ℤ, ◌+ℤ◌, ◌-ℤ◌, int_div, if◌then◌else◌, nat_lt}
use Rattle.std.proofs.Math.Nat.{div-le_self, mod-add-mod, pow-le-pow_right, zero-div, zero-mod}
use Rattle.std.proofs.lemmas.Int.{ints}
use Rattle.gl_values.proofs.Signs.{high_number, low_number, word_cut, word_fits, word_negated, word_sum, wrapped_is}
use Rattle.gl_bits.proofs.Wrapping.{wraps_within}
use Rattle.gl_values.specs.declared.kind.Kind.{Kind}
use Rattle.gl_values.specs.declared.kind.Kind.TheVariants.{Unsigned, Signed, Text}
use Rattle.gl_values.specs.Kinds.{is_signed, number_in, number_of, signed_number, width_of, word_of, wrapped}
use Rattle.gl_values.specs.Totals.{average_of, count_of, quotient_of, sum_of_numbers, sum_total, weighted, weighted_sum}

-- one more value
pub fold_more : {A B : Type 0} (f : B → A → B) (a : B) (xs : List A) (i : ℕ) (d : A) → i < length xs → fold f a (take (i + 1) xs) ≡ f (fold f a (take i xs)) (get_or xs i d)
fold_more f a [] i d lt = absurd (omega arith)
fold_more f a (x ∷ xs) zero d lt = refl
fold_more {A = A} {B = B} f a (x ∷ xs) (suc i) d lt = later (fold_more f (f a x) xs i d (omega arith))
  where
    later : fold f (f a x) (take (i + 1) xs) ≡ f (fold f (f a x) (take i xs)) (get_or xs i d) → fold f a (take (suc i + 1) (x ∷ xs)) ≡ f (fold f (f a x) (take i xs)) (get_or xs i d)
    later h =
        let here : i + 1 ≡ suc i = omega arith in
        let there : suc i + 1 ≡ suc (suc i) = omega arith in
        ap (λ n. fold f a (take n (x ∷ xs))) there ∙ ap (λ n. fold f (f a x) (take n xs)) (sym here) ∙ h

pub sum_more : (xs : List ℕ) (i : ℕ) → i < length xs → (sum (take i xs) % 2 ^ 128 + get_or xs i 0) % 2 ^ 128 ≡ sum (take (i + 1) xs) % 2 ^ 128
sum_more xs i lt = mod-add-mod (sum (take i xs)) (2 ^ 128) (get_or xs i 0) ∙ ap (λ n. n % 2 ^ 128) (sym (fold_more (λ a x. a + x) 0 xs i 0 lt))

-- the sum that a loop ends with, in a width
pub sum_wrapped : (w i : ℕ) (xs : List ℕ) → w ≤ 128 → length xs ≤ i → sum (take i xs) % 2 ^ 128 % 2 ^ w ≡ sum_total w xs
unfolding sum_total
sum_wrapped w i xs most past = wraps_within (sum (take i xs)) w most ∙ ap (λ l. sum l % 2 ^ w) (take_all i xs past)

-- ---- sums of numbers, which may have a sign

pub numbers_more : (kind : Kind) (xs : List ℕ) (i : ℕ) → i < length xs
    → (word_of 128 (sum_of_numbers kind (take i xs)) + word_of 128 (number_of kind (get_or xs i 0))) % 2 ^ 128 ≡ word_of 128 (sum_of_numbers kind (take (i + 1) xs))
numbers_more kind xs i lt =
    word_sum 128 (sum_of_numbers kind (take i xs)) (number_of kind (get_or xs i 0))
    ∙ ap (word_of 128) (sym (fold_more (λ (a : ℤ) (x : ℕ). a +ℤ number_of kind x) (pos 0) xs i 0 lt))

pub numbers_all : (kind : Kind) (xs : List ℕ) (i : ℕ) → length xs ≤ i → word_of 128 (sum_of_numbers kind (take i xs)) ≡ word_of 128 (sum_of_numbers kind xs)
numbers_all kind xs i past = ap (λ (l : List ℕ). word_of 128 (sum_of_numbers kind l)) (take_all i xs past)

sums_from : (kind : Kind) (w a : ℕ) (z : ℤ) (xs : List ℕ) → a % 2 ^ w ≡ word_of w z
    → fold (λ (s x : ℕ). s + x) a (map (λ (x : ℕ). word_of w (number_of kind x)) xs) % 2 ^ w ≡ word_of w (fold (λ (s : ℤ) (x : ℕ). s +ℤ number_of kind x) z xs)
sums_from kind w a z [] e = e
sums_from kind w a z (x ∷ xs) e =
    sums_from kind w (a + word_of w (number_of kind x)) (z +ℤ number_of kind x) xs
    (sym (mod-add-mod a (2 ^ w) (word_of w (number_of kind x))) ∙ ap (λ (k : ℕ). (k + word_of w (number_of kind x)) % 2 ^ w) e ∙ word_sum w z (number_of kind x))

-- the sum of words of a width that stand for the same numbers
pub words_sum : (kind : Kind) (w : ℕ) (xs : List ℕ) → sum_total w (map (λ (x : ℕ). word_of w (number_of kind x)) xs) ≡ word_of w (sum_of_numbers kind xs)
unfolding sum_total
words_sum kind w xs = sums_from kind w 0 (pos 0) xs refl

-- ---- quotients

int_quotient : (m c : ℕ) → int_div (neg_ℤ (pos m)) (pos c) ≡ neg_ℤ (pos (m / c))
int_quotient zero c = let none : 0 / c ≡ 0 = zero-div c in ap pos none ∙ sym (ap (λ (k : ℕ). neg_ℤ (pos k)) none)
int_quotient (suc m) c = refl

quotient_some : (z : ℤ) (c : ℕ) → c ≢ 0 → quotient_of z c ≡ int_div z (pos c)
quotient_some z c some = ap (λ (b : Bool). if b then pos 0 else int_div z (pos c)) (ne_eqb c 0 some)

pub quotient_plain : (kind : Kind) (b w s c : ℕ) → is_signed kind ≡ false → c ≢ 0 → s / c % 2 ^ w ≡ word_of w (quotient_of (number_in kind b s) c)
quotient_plain (Unsigned v) b w s c e some = sym (ap (word_of w) (quotient_some (pos s) c some))
quotient_plain (Signed v) b w s c e some = absurd cc
quotient_plain (Text n) b w s c e some = sym (ap (word_of w) (quotient_some (pos s) c some))

pub quotient_low : (b w s c : ℕ) → nat_lt s (2 ^ (b - 1)) ≡ true → c ≢ 0 → s / c % 2 ^ w ≡ word_of w (quotient_of (signed_number b s) c)
quotient_low b w s c low some = sym (ap (λ (z : ℤ). word_of w (quotient_of z c)) (low_number b s low) ∙ ap (word_of w) (quotient_some (pos s) c some))

-- the quotient of what is left without the sign, and then its sign
quotient_signed : (b s c : ℕ) → nat_lt s (2 ^ (b - 1)) ≡ false → s < 2 ^ b → c ≢ 0 → quotient_of (signed_number b s) c ≡ neg_ℤ (pos ((2 ^ b - s) / c))
quotient_signed b s c high fits some =
    let z : pos s -ℤ pos (2 ^ b) ≡ neg_ℤ (pos (2 ^ b - s)) = omega (arith, ints, fits) in
    ap (λ (k : ℤ). quotient_of k c) (high_number b s high ∙ z) ∙ quotient_some (neg_ℤ (pos (2 ^ b - s))) c some ∙ int_quotient (2 ^ b - s) c

pub quotient_high : (b n w s c : ℕ) → nat_lt s (2 ^ (b - 1)) ≡ false → s < 2 ^ b → c ≢ 0 → b ≤ n → w ≤ n
    → (0 + (2 ^ n - (2 ^ b - s) / c)) % 2 ^ n % 2 ^ w ≡ word_of w (quotient_of (signed_number b s) c)
quotient_high b n w s c high fits some wider most =
    let q : ℕ = (2 ^ b - s) / c in
    let few : q ≤ 2 ^ b - s = div-le_self (2 ^ b - s) c in
    let wide : 2 ^ b ≤ 2 ^ n = pow-le-pow_right {n = 2} (omega arith) wider in
    ap (λ (k : ℕ). k % 2 ^ w) (sym (word_negated n q (omega (arith, few, wide)))) ∙ word_cut n w (neg_ℤ (pos q)) most
    ∙ sym (ap (word_of w) (quotient_signed b s c high fits some))

-- ---- averages

pub average_is : (kind : Kind) (xs : List ℕ) (s n : ℕ) → s ≡ word_of (width_of kind + 32) (sum_of_numbers kind xs) → n ≡ count_of xs
    → word_of (width_of kind) (quotient_of (number_in kind (width_of kind + 32) s) n) ≡ average_of kind xs
unfolding average_of
average_is kind xs s n is number =
    let held = wrapped_is kind (width_of kind + 32) (sum_of_numbers kind xs) (let some : 1 ≤ width_of kind + 32 = omega arith in some) in
    ap (λ (k : ℕ). word_of (width_of kind) (quotient_of (number_in kind (width_of kind + 32) k) n)) is
    ∙ ap (λ (z : ℤ). word_of (width_of kind) (quotient_of z n)) (sym held)
    ∙ ap (λ (k : ℕ). word_of (width_of kind) (quotient_of (wrapped kind (width_of kind + 32) (sum_of_numbers kind xs)) k)) number

pub average_none : (kind : Kind) (xs : List ℕ) → count_of xs ≡ 0 → average_of kind xs ≡ 0
unfolding average_of
average_none kind xs e = rw e (zero-mod (2 ^ width_of kind))

pub average_fits : (kind : Kind) (xs : List ℕ) → average_of kind xs < 2 ^ width_of kind
unfolding average_of
average_fits kind xs = word_fits (width_of kind) (quotient_of (wrapped kind (width_of kind + 32) (sum_of_numbers kind xs)) (count_of xs))

weighted-none : (ns xs : List ℕ) → (length ns ≡ 0) ⊎ (length xs ≡ 0) → weighted ns xs ≡ 0
weighted-none [] xs e = refl
weighted-none (n ∷ ns) [] e = refl
weighted-none (n ∷ ns) (x ∷ xs) (inl e) = absurd (omega arith)
weighted-none (n ∷ ns) (x ∷ xs) (inr e) = absurd (omega arith)

-- the sum that such a loop ends with, in a width
pub weighed : (w total : ℕ) (ns xs weights values : List ℕ) → w ≤ 128 → (length ns ≡ 0) ⊎ (length xs ≡ 0) → (total + weighted ns xs) % 2 ^ 128 ≡ weighted weights values % 2 ^ 128 → total % 2 ^ w ≡ weighted_sum w weights values
unfolding weighted_sum
weighed w total ns xs weights values most done same =
    let none : weighted ns xs ≡ 0 = weighted-none ns xs done in
    let here : total ≡ total + weighted ns xs = omega arith in
    sym (wraps_within total w most)
    ∙ ap (λ n. n % 2 ^ 128 % 2 ^ w) here
    ∙ ap (λ n. n % 2 ^ w) same
    ∙ wraps_within (weighted weights values) w most

pub ruleset sums = (sum_more, sum_wrapped)

pub ruleset numbers = (numbers_more, numbers_all)

pub ruleset folds = (fold_more)
