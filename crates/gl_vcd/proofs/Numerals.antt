-- Numbers in decimal and in binary are read as these numbers.
use Rattle.std.proofs.Common.{◌≡◌, ℕ, zero, suc, ◌+◌, ◌-◌, ◌*◌, ◌/◌, ◌%◌, ◌^◌, ◌<◌, ◌≤◌, inl, inr, Bool, true, false, not, ◌||◌, List, [], ◌∷◌, length, refl, ap, ◌∙◌, arith, le-leb, ne_eqb, pow-suc}
use Rattle.std.specs.Prelude.{decimal, nat_eq, ◌==◌, ◌⊎◌, if◌then◌else◌}
use Rattle.std.specs.Fmt.{digit_glyph, digits_onto}
use Rattle.std.specs.List.{fold, list_all, list_any}
use Rattle.std.specs.Str.Parse.{AllDigits}
use Rattle.std.proofs.lemmas.Bool.{and_from, and_parts, cond-false, cond-true, or_from}
use Rattle.std.proofs.lemmas.Bool.Decides.{eqb_tells}
use Rattle.std.proofs.lemmas.Fmt.{decimal_is_IsNumeral}
use Rattle.std.proofs.lemmas.Str.Parse.{FoldsDigits, IsNumeralModel, numerals_by_fold, tells_digits}
use Rattle.gl_schema.specs.Names.{is_digit}
use Rattle.gl_schema.specs.SchemaText.{is_blank}
use Rattle.gl_tuples.specs.Values.{are_digits, is_number, number_in}
use Rattle.gl_vcd.specs.Reading.{are_bits, binary_in, is_bit}
use Rattle.gl_vcd.specs.Written.{binary}
use Rattle.gl_vcd.proofs.Bytes.{is_word}

-- ---- decimal

are_all : (ds : List ℕ) → AllDigits 10 ds → list_all is_digit ds ≡ true
are_all [] d = refl
are_all (c ∷ cs) d = let p = tells_digits.parts c cs d in rw (le-leb 48 c p.0.0, le-leb c 57 p.0.1, are_all cs p.1) refl

value_from : ℕ → List ℕ → ℕ
value_from n ds = fold (λ m b. 10 * m + (b - 48)) n ds

turned : (n : ℕ) → 10 * n ≡ n * 10
turned n = omega arith

folds : FoldsDigits value_from
unfolding value_from
folds = record { empty = λ n. refl; more = λ n c cs r. ap (λ (m : ℕ). value_from (m + (c - 48)) cs) (turned n) }

own : IsNumeralModel (AllDigits 10) (value_from 0)
own = numerals_by_fold (AllDigits 10) tells_digits value_from folds

pub decimal_is : (v : ℕ) → v < 2 ^ 64 → is_number (decimal v) ≡ true
unfolding is_number are_digits
decimal_is v small =
    let d = decimal_is_IsNumeral v small in
    let some : (length (decimal v) == 0) ≡ false = ne_eqb (length (decimal v)) 0 (λ e. let l = d.0.0 in omega (arith, e, l)) in
    rw (some, are_all (decimal v) d.0.1) refl

pub decimal_value : (v : ℕ) → v < 2 ^ 64 → number_in (decimal v) ≡ v
unfolding number_in value_from
decimal_value v small = let d = decimal_is_IsNumeral v small in own.same (decimal v) d.0.1 ∙ d.1

-- what is no white space
pub dark : (b : ℕ) → 33 ≤ b → is_blank b ≡ false
dark b low =
    or_from (((b == 32) || (b == 9)) || (b == 13)) (b == 10) (or_from ((b == 32) || (b == 9)) (b == 13) (or_from (b == 32) (b == 9)
    (ne_eqb b 32 (λ e. omega (arith, e, low))) (ne_eqb b 9 (λ e. omega (arith, e, low)))) (ne_eqb b 13 (λ e. omega (arith, e, low)))) (ne_eqb b 10 (λ e. omega (arith, e, low)))

digits_dark : (ds : List ℕ) → AllDigits 10 ds → list_any is_blank ds ≡ false
digits_dark [] d = refl
digits_dark (c ∷ cs) d =
    let p = tells_digits.parts c cs d in
    or_from (is_blank c) (list_any is_blank cs) (dark c (let low : 48 ≤ c = p.0.0 in omega (arith, low))) (digits_dark cs p.1)

pub decimal_dark : (v : ℕ) → v < 2 ^ 64 → list_any is_blank (decimal v) ≡ false
decimal_dark v small = let d = decimal_is_IsNumeral v small in digits_dark (decimal v) d.0.1

dark_word : (ds : List ℕ) → (0 < length ds) → list_any is_blank ds ≡ false → is_word ds ≡ true
dark_word [] some dark' = absurd (omega (arith, some))
dark_word (d ∷ ds) some dark' = ap not dark'

pub decimal_word : (v : ℕ) → v < 2 ^ 64 → is_word (decimal v) ≡ true
decimal_word v small = let d = decimal_is_IsNumeral v small in dark_word (decimal v) (let l = d.0.0 in omega (arith, l)) (decimal_dark v small)

-- a word behind a byte
pub word_behind : (b : ℕ) (bs : List ℕ) → 33 ≤ b → list_any is_blank bs ≡ false → is_word (b ∷ bs) ≡ true
word_behind b bs low dark' = ap not (or_from (is_blank b) (list_any is_blank bs) (dark b low) dark')

-- ---- binary

glyph_is : (d : ℕ) → d < 2 → digit_glyph false d ≡ 48 + d
glyph_is zero lt = refl
glyph_is (suc zero) lt = refl
glyph_is (suc (suc d)) lt = absurd (omega (arith, lt))

glyph_bit : (d : ℕ) → d < 2 → is_bit (digit_glyph false d) ≡ true
glyph_bit zero lt = refl
glyph_bit (suc zero) lt = refl
glyph_bit (suc (suc d)) lt = absurd (omega (arith, lt))

below_two : (n : ℕ) → n % 2 < 2
below_two n = omega arith

are_all_bits : (ds : List ℕ) → are_bits ds ≡ true → list_all is_bit ds ≡ true
are_all_bits [] h = absurd cc
are_all_bits (d ∷ ds) h = h

bits_more : (n : ℕ) (ds : List ℕ) → list_all is_bit ds ≡ true → are_bits (digit_glyph false (n % 2) ∷ ds) ≡ true
bits_more n ds h = and_from (is_bit (digit_glyph false (n % 2))) (list_all is_bit ds) (glyph_bit (n % 2) (below_two n)) h

bits_one_of : (b : Bool) (x y : List ℕ) → are_bits x ≡ true → are_bits y ≡ true → are_bits (if b then x else y) ≡ true
bits_one_of true x y p q = p
bits_one_of false x y p q = q

bits_onto : (k n : ℕ) (acc : List ℕ) → are_bits acc ≡ true → are_bits (digits_onto k 2 false n acc) ≡ true
bits_onto zero n acc h = h
bits_onto (suc k) n acc h =
    let one = bits_more n acc (are_all_bits acc h) in
    bits_one_of (n / 2 == 0) (digit_glyph false (n % 2) ∷ acc) (digits_onto k 2 false (n / 2) (digit_glyph false (n % 2) ∷ acc)) one
    (bits_onto k (n / 2) (digit_glyph false (n % 2) ∷ acc) one)

bits_first : (k n : ℕ) → are_bits (digits_onto (suc k) 2 false n []) ≡ true
bits_first k n =
    let one = bits_more n [] refl in
    bits_one_of (n / 2 == 0) (digit_glyph false (n % 2) ∷ []) (digits_onto k 2 false (n / 2) (digit_glyph false (n % 2) ∷ [])) one
    (bits_onto k (n / 2) (digit_glyph false (n % 2) ∷ []) one)

pub binary_bits : (v : ℕ) → are_bits (binary v) ≡ true
unfolding binary
binary_bits v = bits_first 127 v

-- the number that binary digits spell behind another
bits_value : ℕ → List ℕ → ℕ
bits_value n ds = fold (λ m b. 2 * m + (b - 48)) n ds

last_digit : (n : ℕ) → n / 2 ≡ 0 → 2 * 0 + (digit_glyph false (n % 2) - 48) ≡ n
last_digit n e = ap (λ (g : ℕ). 2 * 0 + (g - 48)) (glyph_is (n % 2) (below_two n)) ∙ (let s : 2 * 0 + (48 + n % 2 - 48) ≡ n = omega (arith, e) in s)

one_digit : (n : ℕ) → 2 * (n / 2) + (digit_glyph false (n % 2) - 48) ≡ n
one_digit n = ap (λ (g : ℕ). 2 * (n / 2) + (g - 48)) (glyph_is (n % 2) (below_two n)) ∙ (let s : 2 * (n / 2) + (48 + n % 2 - 48) ≡ n = omega arith in s)

half_below : (k n : ℕ) → n < 2 ^ suc k → n / 2 < 2 ^ k
half_below k n lt = let e : 2 ^ suc k ≡ 2 ^ k * 2 = pow-suc 2 k in omega (arith, e, lt)

value_step : (k n : ℕ) (acc : List ℕ)
    → bits_value 0 (digits_onto k 2 false (n / 2) (digit_glyph false (n % 2) ∷ acc)) ≡ bits_value (n / 2) (digit_glyph false (n % 2) ∷ acc)
    → bits_value 0 (digits_onto (suc k) 2 false n acc) ≡ bits_value n acc
unfolding bits_value
value_step k n acc rest = elim (eqb_tells (n / 2) 0) [
  | inl h ↦ ap (bits_value 0) (cond-true (n / 2 == 0) (digit_glyph false (n % 2) ∷ acc) (digits_onto k 2 false (n / 2) (digit_glyph false (n % 2) ∷ acc)) h.0)
      ∙ ap (λ (m : ℕ). bits_value m acc) (last_digit n h.1)
  | inr h ↦ ap (bits_value 0) (cond-false (n / 2 == 0) (digit_glyph false (n % 2) ∷ acc) (digits_onto k 2 false (n / 2) (digit_glyph false (n % 2) ∷ acc)) h.0)
      ∙ rest ∙ ap (λ (m : ℕ). bits_value m acc) (one_digit n)
]

value_onto : (k n : ℕ) (acc : List ℕ) → n < 2 ^ k → bits_value 0 (digits_onto k 2 false n acc) ≡ bits_value n acc
value_onto zero n acc lt = let z : 0 ≡ n = omega (arith, lt) in ap (λ (m : ℕ). bits_value m acc) z
value_onto (suc k) n acc lt = value_step k n acc (value_onto k (n / 2) (digit_glyph false (n % 2) ∷ acc) (half_below k n lt))

pub binary_value : (v : ℕ) → v < 2 ^ 128 → binary_in (binary v) ≡ v
unfolding binary bits_value
binary_value v small = value_onto 128 v [] small

bit_dark : (b : ℕ) → is_bit b ≡ true → is_blank b ≡ false
bit_dark b h = dark b (low (eqb_tells b 48) (eqb_tells b 49))
  where
    low : ((nat_eq b 48 ≡ true) × (b ≡ 48)) ⊎ ((nat_eq b 48 ≡ false) × (b ≡ 48 → ⊥)) → ((nat_eq b 49 ≡ true) × (b ≡ 49)) ⊎ ((nat_eq b 49 ≡ false) × (b ≡ 49 → ⊥)) → 33 ≤ b
    low (inl p) q = let e : b ≡ 48 = p.1 in omega (arith, e)
    low (inr p) (inl q) = let e : b ≡ 49 = q.1 in omega (arith, e)
    low (inr p) (inr q) = let e : (nat_eq b 48 || nat_eq b 49) ≡ false = or_from (nat_eq b 48) (nat_eq b 49) p.0 q.0 in absurd (cc (e, h))

bits_dark : (ds : List ℕ) → list_all is_bit ds ≡ true → list_any is_blank ds ≡ false
bits_dark [] h = refl
bits_dark (d ∷ ds) h =
    let p = and_parts (is_bit d) (list_all is_bit ds) h in
    or_from (is_blank d) (list_any is_blank ds) (bit_dark d p.0) (bits_dark ds p.1)

pub binary_dark : (v : ℕ) → list_any is_blank (binary v) ≡ false
binary_dark v = bits_dark (binary v) (are_all_bits (binary v) (binary_bits v))
