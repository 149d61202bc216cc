-- What is left after one more digit, and how a circuit comes to it.
use Rattle.std.proofs.Common.{◌≡◌, ℕ, suc, ◌+◌, ◌-◌, ◌*◌, ◌%◌, ◌^◌, ◌<◌, ◌≤◌, inl, inr, Bool, true, false, refl, sym, ap, ◌∙◌, arith}
use Rattle.std.specs.Prelude.{if◌then◌else◌, nat_le, not, ◌||◌}
use Rattle.std.proofs.Math.Nat.{add-mod_right, mod-eq_of_lt}
use Rattle.std.proofs.lemmas.Bool.{cases_lt}
use Rattle.std.proofs.lemmas.Bool.Decides.{leb_tells}
use Rattle.gl_bits.proofs.Bools.{bit_fits}
use Rattle.gl_bits.proofs.Wrapping.{difference_whole}
use Rattle.gl_bits.specs.Words.{bit, difference_of}
use Rattle.gl_divide.specs.Division.{fits, highest, left, with_bit}
use Rattle.gl_divide.proofs.BitLemmas.{highest_none, highest_some, width_double, with_bit_none, with_bit_some}

-- what is left, and the digit, from whether the bottom fits
pub record IsLeft (rest bottom : ℕ) (next f : Bool) : Type 0 where
  pub digit : fits rest bottom next ≡ f
  pub kept : left rest bottom next ≡ (if f then 2 * rest + bit next - bottom else 2 * rest + bit next)

left_by : (rest bottom : ℕ) (next f : Bool) → nat_le bottom (2 * rest + bit next) ≡ f → IsLeft rest bottom next f
unfolding left fits
left_by rest bottom next f e = record { digit = e; kept = ap (λ (b : Bool). if b then 2 * rest + bit next - bottom else 2 * rest + bit next) e }

fits_is : (rest bottom : ℕ) (next : Bool) → nat_le bottom (2 * rest + bit next) ≡ fits rest bottom next
unfolding fits
fits_is rest bottom next = refl

-- either it fits, or not
pub data Fitting (rest bottom : ℕ) (next : Bool) : Type 0 where
  it_fits : bottom ≤ 2 * rest + bit next → IsLeft rest bottom next true → Fitting rest bottom next
  it_does_not : 2 * rest + bit next < bottom → IsLeft rest bottom next false → Fitting rest bottom next

pub fitting : (rest bottom : ℕ) (next : Bool) → Fitting rest bottom next
fitting rest bottom next = elim (leb_tells bottom (2 * rest + bit next)) [
  | inl p ↦ it_fits p.1 (left_by rest bottom next true p.0)
  | inr p ↦ it_does_not p.1 (left_by rest bottom next false p.0)
]

-- less than the bottom is left again, and the digit tells how often the bottom went into what was there
pub record IsWhole (rest bottom : ℕ) (next : Bool) : Type 0 where
  pub below : left rest bottom next < bottom
  pub whole : 2 * rest + bit next ≡ bit (fits rest bottom next) * bottom + left rest bottom next

pub is_whole : (rest bottom : ℕ) (next : Bool) → rest < bottom → IsWhole rest bottom next
is_whole rest bottom next lt = elim (fitting rest bottom next) [
  | it_fits le h ↦
      let small : bit next < 2 ^ 1 = bit_fits next in
      record { below = omega (arith, h.kept); whole = rw h.digit (omega (arith, h.kept)) }
  | it_does_not less h ↦ record { below = omega (arith, h.kept); whole = rw h.digit (omega (arith, h.kept)) }
]

-- ---- by one difference of one more bit

-- the difference of v = w + 1 bits has its highest bit where the bottom does not fit; what is kept has w bits
pub record IsShort (w rest bottom : ℕ) (next : Bool) (less : ℕ) : Type 0 where
  pub under : not (highest (w + 1) less) ≡ fits rest bottom next
  pub kept : (if highest (w + 1) less then 2 * rest + bit next else less) % 2 ^ w ≡ left rest bottom next

short_by : (w rest bottom less : ℕ) (next high : Bool) → highest (w + 1) less ≡ high → not high ≡ fits rest bottom next → (if high then 2 * rest + bit next else less) ≡ left rest bottom next
    → left rest bottom next < 2 ^ w → IsShort w rest bottom next less
short_by w rest bottom less next high e digit kept fit = record {
  under = ap not e ∙ digit;
  kept = ap (λ (b : Bool). (if b then 2 * rest + bit next else less) % 2 ^ w) e ∙ ap (λ (n : ℕ). n % 2 ^ w) kept ∙ mod-eq_of_lt fit;
}

pub is_short : (w rest bottom : ℕ) (next : Bool) → rest < bottom → bottom < 2 ^ w → IsShort w rest bottom next (difference_of (w + 1) (2 * rest + bit next) bottom)
unfolding difference_of
is_short w rest bottom next lt fit =
    let one : w + 1 ≡ suc w = omega arith in
    let double : 2 ^ (w + 1) ≡ 2 ^ w + 2 ^ w = width_double (w + 1) w one in
    let small : bit next < 2 ^ 1 = bit_fits next in
    let again : left rest bottom next < bottom = (is_whole rest bottom next lt).below in
    elim (fitting rest bottom next) [
      | it_fits le h ↦
          let over : 2 * rest + bit next + (2 ^ (w + 1) - bottom) ≡ 2 * rest + bit next - bottom + 2 ^ (w + 1) = omega arith in
          let less : 2 * rest + bit next - bottom < 2 ^ w = omega arith in
          let below : 2 * rest + bit next - bottom < 2 ^ (w + 1) = omega arith in
          let is : (2 * rest + bit next + (2 ^ (w + 1) - bottom)) % 2 ^ (w + 1) ≡ 2 * rest + bit next - bottom =
          ap (λ (n : ℕ). n % 2 ^ (w + 1)) over ∙ add-mod_right (2 * rest + bit next - bottom) (2 ^ (w + 1)) ∙ mod-eq_of_lt below in
          short_by w rest bottom _ next false (ap (highest (w + 1)) is ∙ highest_none (w + 1) w (2 * rest + bit next - bottom) one less) (sym h.digit) (is ∙ sym h.kept) (omega arith)
      | it_does_not under h ↦
          let y = 2 ^ w - (bottom - (2 * rest + bit next)) in
          let shape : 2 * rest + bit next + (2 ^ (w + 1) - bottom) ≡ 2 ^ w + y = omega arith in
          let y_fits : y < 2 ^ w = omega arith in
          let below : 2 ^ w + y < 2 ^ (w + 1) = omega arith in
          let is : (2 * rest + bit next + (2 ^ (w + 1) - bottom)) % 2 ^ (w + 1) ≡ 2 ^ w + y = ap (λ (n : ℕ). n % 2 ^ (w + 1)) shape ∙ mod-eq_of_lt below in
          short_by w rest bottom _ next true (ap (highest (w + 1)) is ∙ highest_some (w + 1) w (2 ^ w + y) y one refl y_fits) (sym h.digit) (sym h.kept) (omega arith)
    ]

-- ---- where no word has one more bit: the highest bit of what is left is lost

pub record IsLong (v rest bottom : ℕ) (next : Bool) : Type 0 where
  pub digit : (highest v rest || nat_le bottom (with_bit v rest next)) ≡ fits rest bottom next
  pub kept : (if fits rest bottom next then difference_of v (with_bit v rest next) bottom else with_bit v rest next) ≡ left rest bottom next

module _ (v w rest bottom : ℕ) (next : Bool) (e : v ≡ suc w) (fit : bottom < 2 ^ v) (less : rest < bottom) where
  small : bit next < 2 ^ 1
  small = bit_fits next

  -- the bit is lost, so it fits
  long_high : 2 ^ w ≤ rest → IsLong v rest bottom next
  unfolding difference_of
  long_high le =
      let double : 2 ^ v ≡ 2 ^ w + 2 ^ w = width_double v w e in
      let y = rest - 2 ^ w in
      let bound : bit next < 2 ^ 1 = small in
      let is : rest ≡ 2 ^ w + y = omega arith in
      let y_fits : y < 2 ^ w = omega arith in
      let more : with_bit v rest next ≡ 2 * y + bit next = with_bit_some v w rest y next e is y_fits in
      let high : highest v rest ≡ true = highest_some v w rest y e is y_fits in
      let below : 2 * y + bit next + (2 ^ v - bottom) < 2 ^ v = omega arith in
      elim (fitting rest bottom next) [
        | it_fits le h ↦ record {
          digit = rw (high, h.digit) refl;
          kept = rw (h.digit, more) (mod-eq_of_lt below ∙ omega (arith, h.kept));
        }
        | it_does_not under h ↦ absurd (omega arith)
      ]

  long_low : rest < 2 ^ w → IsLong v rest bottom next
  long_low lt =
      let double : 2 ^ v ≡ 2 ^ w + 2 ^ w = width_double v w e in
      let bound : bit next < 2 ^ 1 = small in
      let none : highest v rest ≡ false = highest_none v w rest e lt in
      let more : with_bit v rest next ≡ 2 * rest + bit next = with_bit_none v w rest next e lt in
      let more_fits : 2 * rest + bit next < 2 ^ v = omega arith in
      record { digit = rw (none, more) (fits_is rest bottom next); kept = rw more (kept_by more_fits) }
    where
      kept_by : 2 * rest + bit next < 2 ^ v → (if fits rest bottom next then difference_of v (2 * rest + bit next) bottom else 2 * rest + bit next) ≡ left rest bottom next
      kept_by below = elim (fitting rest bottom next) [
        | it_fits le h ↦ rw h.digit (difference_whole v (2 * rest + bit next) bottom below le ∙ sym h.kept)
        | it_does_not under h ↦ rw h.digit (sym h.kept)
      ]

  pub is_long : IsLong v rest bottom next
  is_long = elim (cases_lt rest (2 ^ w)) [ inl lt ↦ long_low lt | inr le ↦ long_high le ]
