-- Digit by digit the quotient.
use Rattle.std.proofs.Common.{◌≡◌, ◌≢◌, ℕ, zero, suc, ◌+◌, ◌-◌, ◌*◌, ◌/◌, ◌^◌, ◌<◌, inl, inr, Bool, true, false, refl, sym, ap, ◌∙◌, subst, arith}
use Rattle.std.proofs.Math.Nat.{two-pow-succ, zero-mul}
use Rattle.std.proofs.lemmas.Bool.{cases_lt}
use Rattle.std.proofs.lemmas.Nat.{div-mul-add, mul-add-lt, pow-add}
use Rattle.gl_bits.proofs.Bools.{bit_fits}
use Rattle.gl_bits.specs.Words.{bit}
use Rattle.gl_divide.specs.Division.{Division, digits_on, fits_next, highest, next_digit, one_digit, undivided, with_bit}
use Rattle.gl_divide.proofs.BitLemmas.{highest_none, highest_some, with_bit_none, with_bit_some}
use Rattle.gl_divide.proofs.RestLemmas.{IsWhole, is_whole}

-- after i digits, with k to come: the top's digits that are gone and those that are not, and the quotient of the former
pub record IsUnderWay (k i top bottom : ℕ) (d : Division) : Type 0 where
  pub gone : ℕ
  pub ahead : ℕ
  pub quotient : ℕ
  pub top_is : top ≡ gone * 2 ^ k + ahead
  pub ahead_fits : ahead < 2 ^ k
  pub digits_are : d.digits ≡ ahead * 2 ^ i + quotient
  pub quotient_fits : quotient < 2 ^ i
  pub gone_is : gone ≡ quotient * d.bottom + d.rest
  pub rest_fits : d.rest < d.bottom
  pub same_bottom : d.bottom ≡ bottom

under_way_none : (n top bottom : ℕ) → top < 2 ^ n → bottom ≢ 0 → IsUnderWay n 0 top bottom (undivided top bottom)
under_way_none n top bottom fits some = record {
  gone = 0;
  ahead = top;
  quotient = 0;
  top_is = omega arith;
  ahead_fits = fits;
  digits_are = omega arith;
  quotient_fits = omega arith;
  gone_is = omega arith;
  rest_fits = omega arith;
  same_bottom = refl;
}

-- the next digit of a top, of which this part is ahead
module _ (n k i digits ahead quotient : ℕ) (e : n ≡ suc (k + i)) (digits_are : digits ≡ ahead * 2 ^ i + quotient) (fits_quotient : quotient < 2 ^ i) where
  power : 2 ^ (k + i) ≡ 2 ^ k * 2 ^ i
  power = pow-add 2 k i

  place_higher : (x : ℕ) → x * 2 ^ (i + 1) ≡ 2 * (x * 2 ^ i)
  place_higher x =
      let one : i + 1 ≡ suc i = omega arith in
      let twice : x * (2 ^ i + 2 ^ i) ≡ 2 * (x * 2 ^ i) = omega arith in
      ap (λ (m : ℕ). x * 2 ^ m) one ∙ ap (λ (p : ℕ). x * p) (two-pow-succ i) ∙ twice

  digits_fit : ahead < 2 ^ k → digits < 2 ^ (k + i)
  digits_fit lt = let place : ahead * 2 ^ i + quotient < 2 ^ i * 2 ^ k = mul-add-lt ahead (2 ^ i) quotient (2 ^ k) lt fits_quotient in omega (arith, power)

  pub digit_none : ahead < 2 ^ k → highest n digits ≡ false
  digit_none lt = highest_none n (k + i) digits e (digits_fit lt)

  pub rest_none : ahead < 2 ^ k → (f : Bool) → with_bit n digits f ≡ ahead * 2 ^ (i + 1) + (2 * quotient + bit f)
  rest_none lt f = with_bit_none n (k + i) digits f e (digits_fit lt) ∙ omega (arith, digits_are, place_higher ahead)

  behind : (rest : ℕ) → ahead ≡ 2 ^ k + rest → digits ≡ 2 ^ (k + i) + (rest * 2 ^ i + quotient)
  behind rest is =
      let parts : (2 ^ k + rest) * 2 ^ i ≡ 2 ^ k * 2 ^ i + rest * 2 ^ i = omega arith in
      omega (arith, digits_are, power, parts, ap (λ (x : ℕ). x * 2 ^ i) is)

  behind_fits : (rest : ℕ) → rest < 2 ^ k → rest * 2 ^ i + quotient < 2 ^ (k + i)
  behind_fits rest lt = let place : rest * 2 ^ i + quotient < 2 ^ i * 2 ^ k = mul-add-lt rest (2 ^ i) quotient (2 ^ k) lt fits_quotient in omega (arith, power)

  pub digit_some : (rest : ℕ) → ahead ≡ 2 ^ k + rest → rest < 2 ^ k → highest n digits ≡ true
  digit_some rest is lt = highest_some n (k + i) digits (rest * 2 ^ i + quotient) e (behind rest is) (behind_fits rest lt)

  pub rest_some : (rest : ℕ) → ahead ≡ 2 ^ k + rest → rest < 2 ^ k → (f : Bool) → with_bit n digits f ≡ rest * 2 ^ (i + 1) + (2 * quotient + bit f)
  rest_some rest is lt f =
      with_bit_some n (k + i) digits (rest * 2 ^ i + quotient) f e (behind rest is) (behind_fits rest lt) ∙ omega (arith, place_higher rest)

module _ (n k i top bottom : ℕ) (d : Division) (e : n ≡ suc (k + i)) (u : IsUnderWay (k + 1) i top bottom d) where
  left_is : IsWhole d.rest d.bottom (next_digit n d)
  left_is = is_whole d.rest d.bottom (next_digit n d) u.rest_fits

  more_with : (rest : ℕ) (next : Bool) → next_digit n d ≡ next → top ≡ (2 * u.gone + bit next) * 2 ^ k + rest → rest < 2 ^ k
      → with_bit n d.digits (fits_next n d) ≡ rest * 2 ^ (i + 1) + (2 * u.quotient + bit (fits_next n d)) → IsUnderWay k (i + 1) top bottom (one_digit n d)
  more_with rest next same top_is fits digits =
      let one : i + 1 ≡ suc i = omega arith in
      let twice : 2 ^ (i + 1) ≡ 2 ^ i + 2 ^ i = ap (λ (x : ℕ). 2 ^ x) one ∙ two-pow-succ i in
      let small : bit (fits_next n d) < 2 ^ 1 = bit_fits (fits_next n d) in
      let parts : (2 * u.quotient + bit (fits_next n d)) * d.bottom ≡ 2 * (u.quotient * d.bottom) + bit (fits_next n d) * d.bottom = omega arith in
      record {
        gone = 2 * u.gone + bit next;
        ahead = rest;
        quotient = 2 * u.quotient + bit (fits_next n d);
        top_is = top_is;
        ahead_fits = fits;
        digits_are = digits;
        quotient_fits = omega (arith, twice, u.quotient_fits, small);
        gone_is = omega (arith, parts, left_is.whole, u.gone_is, ap bit same);
        rest_fits = left_is.below;
        same_bottom = u.same_bottom;
      }

  twice_ahead : 2 ^ (k + 1) ≡ 2 ^ k + 2 ^ k
  twice_ahead = let one : k + 1 ≡ suc k = omega arith in ap (λ (x : ℕ). 2 ^ x) one ∙ two-pow-succ k

  split : u.gone * 2 ^ (k + 1) ≡ 2 * (u.gone * 2 ^ k)
  split = let parts : u.gone * (2 ^ k + 2 ^ k) ≡ 2 * (u.gone * 2 ^ k) = omega arith in ap (λ (x : ℕ). u.gone * x) twice_ahead ∙ parts

  pub under_way_more : IsUnderWay k (i + 1) top bottom (one_digit n d)
  under_way_more = elim (cases_lt u.ahead (2 ^ k)) [
    | inl lt ↦
        let none : (2 * u.gone + 0) * 2 ^ k ≡ 2 * (u.gone * 2 ^ k) = omega arith in
        more_with u.ahead false (digit_none n k i d.digits u.ahead u.quotient e u.digits_are u.quotient_fits lt) (omega (arith, u.top_is, split, none)) lt
        (rest_none n k i d.digits u.ahead u.quotient e u.digits_are u.quotient_fits lt (fits_next n d))
    | inr le ↦
        let rest = u.ahead - 2 ^ k in
        let is : u.ahead ≡ 2 ^ k + rest = omega arith in
        let fits : rest < 2 ^ k = omega (arith, u.ahead_fits, twice_ahead) in
        let one : (2 * u.gone + 1) * 2 ^ k ≡ 2 * (u.gone * 2 ^ k) + 2 ^ k = omega arith in
        more_with rest true (digit_some n k i d.digits u.ahead u.quotient e u.digits_are u.quotient_fits rest is fits) (omega (arith, u.top_is, split, one)) fits
        (rest_some n k i d.digits u.ahead u.quotient e u.digits_are u.quotient_fits rest is fits (fits_next n d))
  ]

-- after i digits
pub under_way : (n top bottom : ℕ) → top < 2 ^ n → bottom ≢ 0 → (i k : ℕ) → n ≡ k + i → IsUnderWay k i top bottom (digits_on n i (undivided top bottom))
under_way n top bottom top_fits some zero k e =
    let same : n ≡ k = omega arith in
    subst (λ (x : ℕ). IsUnderWay x 0 top bottom (undivided top bottom)) same (under_way_none n top bottom top_fits some)
under_way n top bottom top_fits some (suc i) k e =
    let more : n ≡ k + 1 + i = omega arith in
    let last : n ≡ suc (k + i) = omega arith in
    let one : i + 1 ≡ suc i = omega arith in
    subst (λ (x : ℕ). IsUnderWay k x top bottom (one_digit n (digits_on n i (undivided top bottom)))) one
    (under_way_more n k i top bottom (digits_on n i (undivided top bottom)) last (under_way n top bottom top_fits some i (k + 1) more))

-- after all
pub divided : (n top bottom : ℕ) → top < 2 ^ n → bottom ≢ 0 → (digits_on n n (undivided top bottom)).digits ≡ top / bottom
divided n top bottom top_fits some =
    let u = under_way n top bottom top_fits some n 0 (omega arith) in
    let none : u.ahead ≡ 0 = omega (arith, u.ahead_fits) in
    let all : top ≡ u.quotient * bottom + (digits_on n n (undivided top bottom)).rest = omega (arith, u.top_is, u.gone_is, ap (λ (b : ℕ). u.quotient * b) u.same_bottom) in
    let low : u.ahead * 2 ^ n ≡ 0 = ap (λ (x : ℕ). x * 2 ^ n) none ∙ zero-mul (2 ^ n) in
    let digits : (digits_on n n (undivided top bottom)).digits ≡ u.quotient = omega (arith, u.digits_are, low) in
    digits ∙ sym (ap (λ (x : ℕ). x / bottom) all ∙ div-mul-add u.quotient bottom (digits_on n n (undivided top bottom)).rest (omega (arith, u.rest_fits, u.same_bottom)))
