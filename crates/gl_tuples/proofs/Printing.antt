-- A value as it is printed, by what the values of its kind are.
use Rattle.std.proofs.Common.{◌≡◌, ℕ, zero, suc, ◌-◌, ◌*◌, ◌%◌, ◌^◌, ◌<◌, ◌≤◌, true, false, ◌∷◌, length, refl, sym, ap, subst, ◌∙◌, arith, inl, inr}
use Rattle.std.specs.Prelude.{ℤ, pos, neg_ℤ, ◌-ℤ◌, decimal, int_lt, nat_lt}
use Rattle.std.specs.Fmt.{signed_decimal}
use Rattle.std.specs.Int.{bytes_high_first}
use Rattle.std.proofs.Math.Nat.{mod-eq_of_lt, pow-le-pow_right}
use Rattle.std.proofs.lemmas.Bool.{cases_lt, le-ltb, lt-ltb, ltb-true, true≢false}
use Rattle.std.proofs.lemmas.Fmt.{length-decimal-le}
use Rattle.std.proofs.lemmas.Int.{ints}
use Rattle.std.proofs.lemmas.Nat.{pow_pos}
use Rattle.gl_values.specs.declared.kind.Family.TheVariants.{Numbers, Texts}
use Rattle.gl_values.specs.declared.kind.Kind.{Kind}
use Rattle.gl_values.specs.declared.kind.Kind.TheVariants.{Unsigned, Signed, Text}
use Rattle.gl_values.specs.Kinds.{IsKind, bytes_in, family_of, is_below, number_of, signed_number, width_of}
use Rattle.gl_values.proofs.Signs.{half_of, high_number, low_number, shifted}
use Rattle.gl_schema.specs.Seen.{printed, quoted, unpadded}

pub number_printed : (kind : Kind) (v : ℕ) → family_of kind ≡ Numbers → signed_decimal (number_of kind v) ≡ printed kind v
unfolding printed
number_printed (Unsigned w) v e = refl
number_printed (Signed w) v e = refl
number_printed (Text n) v e = absurd cc

pub text_printed : (kind : Kind) (v : ℕ) → family_of kind ≡ Texts → quoted (unpadded (bytes_high_first (bytes_in kind) v)) ≡ printed kind v
unfolding printed
text_printed (Unsigned w) v e = absurd cc
text_printed (Signed w) v e = absurd cc
text_printed (Text n) v e = refl

-- a number of 63 bits has at most 19 digits
pub few_digits : (n : ℕ) → n ≤ 2 ^ 63 → length (decimal n) ≤ 19
few_digits n le = length-decimal-le 19 n (omega arith) (omega arith) (omega arith)

-- ---- signs

-- the number that is written behind a minus sign
record IsBehindMinus (z : ℤ) (n : ℕ) : Type 0 where
  few : n ≤ 2 ^ 63
  text : 45 ∷ decimal n ≡ signed_decimal z

minus_text : (n : ℕ) → 1 ≤ n → 45 ∷ decimal n ≡ signed_decimal (neg_ℤ (pos n))
minus_text zero some = absurd (omega arith)
minus_text (suc n) some = refl

-- 0 is no number that another is below without a sign
signed_zero : (w : ℕ) → signed_number w 0 ≡ pos 0
signed_zero w = low_number w 0 (lt-ltb 0 (2 ^ (w - 1)) (pow_pos (w - 1)))

low_not_below : (w v : ℕ) → nat_lt v (2 ^ (w - 1)) ≡ true → is_below (Signed w) v 0 ≡ false
low_not_below w v low =
    ap (λ (z : ℤ). int_lt z (signed_number w 0)) (low_number w v low) ∙ ap (int_lt (pos v)) (signed_zero w)
    ∙ le-ltb v 0 (let least : 0 ≤ v = omega arith in least)

high_behind : (w v : ℕ) → 1 ≤ w → w ≤ 64 → v < 2 ^ w → 2 ^ (w - 1) ≤ v → IsBehindMinus (signed_number w v) (2 ^ w - v)
high_behind w v some most fits ge =
    let whole = half_of w some in
    let half : 2 ^ (w - 1) ≤ 2 ^ 63 = pow-le-pow_right {n = 2} (omega arith) {i = w - 1} {j = 63} (omega (arith, most)) in
    let left : 1 ≤ 2 ^ w - v = omega (arith, fits) in
    let z : pos v -ℤ pos (2 ^ w) ≡ neg_ℤ (pos (2 ^ w - v)) = omega (arith, ints, fits) in
    record {
      few = omega (arith, whole, half, ge);
      text = minus_text (2 ^ w - v) left ∙ sym (ap signed_decimal (high_number w v (le-ltb v (2 ^ (w - 1)) ge) ∙ z));
    }

behind_minus : (kind : Kind) (v : ℕ) → IsKind kind → v < 2 ^ width_of kind → is_below kind v 0 ≡ true → IsBehindMinus (number_of kind v) (2 ^ width_of kind - v)
behind_minus (Unsigned w) v is fits below = absurd (let none : v < 0 = ltb-true v 0 below in omega (arith, none))
behind_minus (Signed w) v is fits below = elim (cases_lt v (2 ^ (w - 1))) [
  | inl lt ↦ absurd (true≢false (sym below ∙ low_not_below w v (lt-ltb v (2 ^ (w - 1)) lt)))
  | inr ge ↦ high_behind w v (let two : 2 ≤ w = is.0 in omega (arith, two)) is.1 fits ge
]
behind_minus (Text n) v is fits below = absurd (let none : v < 0 = ltb-true v 0 below in omega (arith, none))

below_few : (kind : Kind) (v : ℕ) → IsKind kind → v < 2 ^ width_of kind → is_below kind v 0 ≡ true → 2 ^ width_of kind - v ≤ 2 ^ 63
below_few kind v is fits below = (behind_minus kind v is fits below).few

-- as `size_below` takes it
module _ (kind : Kind) (w v : ℕ) (e : w ≡ width_of kind) (is : IsKind kind) (fits : v < 2 ^ width_of kind) where
  whole : 1 * 2 ^ w % 2 ^ 128 ≡ 2 ^ width_of kind
  whole = ap (λ (k : ℕ). 1 * 2 ^ k % 2 ^ 128) e ∙ shifted (width_of kind) (omega (arith, is.1))

  pub size_over : v ≤ 1 * 2 ^ w % 2 ^ 128
  size_over = omega (arith, whole, fits)

  pub size_is : is_below kind v 0 ≡ true → (1 * 2 ^ w % 2 ^ 128 - v) % 2 ^ 64 ≡ 2 ^ width_of kind - v
  size_is below =
      let few = below_few kind v is fits below in
      ap (λ (n : ℕ). (n - v) % 2 ^ 64) whole ∙ mod-eq_of_lt (omega (arith, few))

  pub size_few : is_below kind v 0 ≡ true → (1 * 2 ^ w % 2 ^ 128 - v) % 2 ^ 64 ≤ 2 ^ 63
  size_few below = subst (λ (n : ℕ). n ≤ 2 ^ 63) (sym (size_is below)) (below_few kind v is fits below)

pub ruleset sizes = (size_over, size_is, size_few)

pub below_text : (kind : Kind) (v : ℕ) → IsKind kind → v < 2 ^ width_of kind → is_below kind v 0 ≡ true
    → 45 ∷ decimal (2 ^ width_of kind - v) ≡ signed_decimal (number_of kind v)
below_text kind v is fits below = (behind_minus kind v is fits below).text

pub plain_text : (kind : Kind) (v : ℕ) → v < 2 ^ width_of kind → is_below kind v 0 ≡ false → decimal v ≡ signed_decimal (number_of kind v)
plain_text (Unsigned w) v fits past = refl
plain_text (Signed w) v fits past = elim (cases_lt v (2 ^ (w - 1))) [
  | inl lt ↦ sym (ap signed_decimal (low_number w v (lt-ltb v (2 ^ (w - 1)) lt)))
  | inr ge ↦ absurd (true≢false (sym (high_below w v fits ge) ∙ past))
]
  where
    high_below : (w v : ℕ) → v < 2 ^ w → 2 ^ (w - 1) ≤ v → is_below (Signed w) v 0 ≡ true
    high_below w v fits ge =
        let below : int_lt (pos v -ℤ pos (2 ^ w)) (pos 0) ≡ true = grind (arith, ints) in
        ap (λ (z : ℤ). int_lt z (signed_number w 0)) (high_number w v (le-ltb v (2 ^ (w - 1)) ge))
        ∙ ap (int_lt (pos v -ℤ pos (2 ^ w))) (signed_zero w) ∙ below
plain_text (Text n) v fits past = refl

pub ruleset integers = (below_text, plain_text)
