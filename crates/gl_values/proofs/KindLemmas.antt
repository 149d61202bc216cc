-- Facts about kinds of columns.
use Rattle.std.proofs.Common.{◌≡◌, ℕ, ◌+◌, ◌-◌, ◌*◌, ◌/◌, ◌^◌, ◌<◌, ◌≤◌, Bool, true, false, inl, inr, refl, sym, ap, subst, ◌∙◌, arith, lit≤}
use Rattle.std.specs.Prelude.{◌&&◌, IsTrue, nat_le, nat_lt, pos}
use Rattle.std.proofs.lemmas.Bool.{cases_lt, eqb-true, eq-eqb, leb-true, le-leb, ltb-true, lt-ltb}
use Rattle.std.proofs.lemmas.Nat.{pow-add, shl-shr, shr-shr}
use Rattle.gl_values.specs.declared.kind.Kind.{Kind}
use Rattle.gl_values.specs.declared.kind.Kind.TheVariants.{Unsigned, Signed, Text}
use Rattle.gl_values.specs.declared.op.Sort.{Sort}
use Rattle.gl_values.specs.declared.op.Sort.TheVariants.{Arithmetic, Comparison, Logic}
use Rattle.gl_values.specs.Kinds.{IsKind, bytes_in, can_cast, fewest, in_range, is_kind, is_signed, is_text, number_of, same_family, width_of}
use Rattle.gl_values.specs.Operators.{cast_of, result_kind, same_kind}
use Rattle.gl_bits.proofs.Bools.{and_both, and_parts, and_right}
use Rattle.gl_values.proofs.Signs.{in_range_signed}
use Rattle.gl_bits.proofs.Wrapping.{fits_wider}

-- ---- which kinds there are

-- one bit is a kind
pub bit_is_kind : IsKind (Unsigned 1)
bit_is_kind = (lit≤ tt, lit≤ tt)

pub kind_some : (kind : Kind) → IsKind kind → 1 ≤ width_of kind
kind_some (Unsigned w) is = is.0
kind_some (Signed w) is = let two : 2 ≤ w = is.0 in omega (arith, two)
kind_some (Text n) is = let eight : 8 ≤ 8 * n = is.0 in omega (arith, eight)

pub kind_width : (kind : Kind) → IsKind kind → width_of kind ≤ 64
kind_width kind is = is.1

-- what an operator gives has a kind
pub result_is : (sort : Sort) (kind : Kind) → IsKind kind → IsKind (result_kind sort kind)
result_is Arithmetic kind is = is
result_is Comparison kind is = bit_is_kind
result_is Logic kind is = bit_is_kind

-- the test tells
pub tested_kind : (kind : Kind) → IsTrue (is_kind kind) → IsKind kind
tested_kind kind h =
    let p = and_parts (nat_le (fewest kind) (width_of kind)) (nat_le (width_of kind) 64) h in
    (leb-true (fewest kind) (width_of kind) p.0, leb-true (width_of kind) 64 p.1)

pub passes_test : (kind : Kind) → IsKind kind → IsTrue (is_kind kind)
passes_test kind h =
    and_both (nat_le (fewest kind) (width_of kind)) (nat_le (width_of kind) 64) (le-leb (fewest kind) (width_of kind) h.0)
    (le-leb (width_of kind) 64 h.1)

-- a CAST leads to a kind
pub cast_kind : (from to : Kind) → IsTrue (can_cast from to) → IsKind to
cast_kind from to h = tested_kind to (and_right (same_family from to) (is_kind to) h)

-- the bytes of a text fill its width
pub text_width : (kind : Kind) → IsTrue (is_text kind) → 8 * bytes_in kind ≡ width_of kind
text_width (Unsigned w) h = absurd cc
text_width (Signed w) h = absurd cc
text_width (Text n) h = omega arith

-- ---- kinds that are one

pub kinds_equal : (j k : Kind) → IsTrue (same_kind j k) → j ≡ k
kinds_equal (Unsigned v) (Unsigned w) e = ap Unsigned (eqb-true v w e)
kinds_equal (Unsigned v) (Signed w) e = absurd cc
kinds_equal (Unsigned v) (Text n) e = absurd cc
kinds_equal (Signed v) (Unsigned w) e = absurd cc
kinds_equal (Signed v) (Signed w) e = ap Signed (eqb-true v w e)
kinds_equal (Signed v) (Text n) e = absurd cc
kinds_equal (Text m) (Unsigned w) e = absurd cc
kinds_equal (Text m) (Signed w) e = absurd cc
kinds_equal (Text m) (Text n) e = ap Text (eqb-true m n e)

kind_itself : (k : Kind) → IsTrue (same_kind k k)
kind_itself (Unsigned w) = eq-eqb w w refl
kind_itself (Signed w) = eq-eqb w w refl
kind_itself (Text n) = eq-eqb n n refl

pub equal_kinds : (j k : Kind) → j ≡ k → IsTrue (same_kind j k)
equal_kinds j k e = subst (λ (x : Kind). IsTrue (same_kind j x)) e (kind_itself j)

-- ---- numbers of kinds

pub no_sign : (kind : Kind) (x : ℕ) → is_signed kind ≡ false → number_of kind x ≡ pos x
no_sign (Unsigned w) x e = refl
no_sign (Signed w) x e = absurd cc
no_sign (Text n) x e = refl

from_0 : (n most : ℕ) → (nat_le 0 n && nat_lt n (0 + most)) ≡ nat_lt n most
from_0 n most =
    let least : nat_le 0 n ≡ true = le-leb 0 n (omega arith) in
    let none : 0 + most ≡ most = omega arith in
    ap (λ (b : Bool). b && nat_lt n (0 + most)) least ∙ ap (λ (k : ℕ). nat_lt n k) none

in_range-0 : (kind : Kind) (n : ℕ) → is_signed kind ≡ false → in_range kind (pos n) ≡ nat_lt n (2 ^ width_of kind)
in_range-0 (Unsigned w) n e = from_0 n (2 ^ w)
in_range-0 (Signed w) n e = absurd cc
in_range-0 (Text m) n e = from_0 n (2 ^ (8 * m))

-- as `Kind::has_number` tests it
pub in_range_is : (kind : Kind) (n bits : ℕ) → is_signed kind ≡ false → bits ≡ width_of kind → nat_lt n (2 ^ bits) ≡ in_range kind (pos n)
in_range_is kind n bits plain e = ap (λ (w : ℕ). nat_lt n (2 ^ w)) e ∙ sym (in_range-0 kind n plain)

-- a number of 128 bits fits as many or more
pub wide_enough : (n bits : ℕ) → n < 2 ^ 128 → 128 ≤ bits → nat_lt n (2 ^ bits) ≡ true
wide_enough n bits lt le = lt-ltb n (2 ^ bits) (fits_wider n 128 bits lt le)

-- a number that is in range is a word
pub range_below : (kind : Kind) (n : ℕ) → IsTrue (in_range kind (pos n)) → n < 2 ^ width_of kind
range_below (Unsigned w) n h = ltb-true n (2 ^ w) (sym (in_range-0 (Unsigned w) n refl) ∙ h)
range_below (Signed w) n h =
    let parts = and_parts (nat_lt 0 w) (nat_lt n (2 ^ (w - 1))) (in_range_signed (Signed w) n w refl refl ∙ h) in
    fits_wider n (w - 1) w (ltb-true n (2 ^ (w - 1)) parts.1) (let less : w - 1 ≤ w = omega arith in less)
range_below (Text m) n h = ltb-true n (2 ^ (8 * m)) (sym (in_range-0 (Text m) n refl) ∙ h)

-- ---- casts of texts

cut : (x i j : ℕ) → x * 2 ^ i / 2 ^ (i + j) ≡ x / 2 ^ j
cut x i j = sym (shr-shr (x * 2 ^ i) i j) ∙ ap (λ (y : ℕ). y / 2 ^ j) (shl-shr x i)

grown : (x i j : ℕ) → x * 2 ^ (j + i) / 2 ^ i ≡ x * 2 ^ j
grown x i j =
    let split : x * 2 ^ (j + i) ≡ x * 2 ^ j * 2 ^ i = rw (pow-add 2 j i) (omega arith) in
    rw split (shl-shr (x * 2 ^ j) i)

whole : (x : ℕ) → x / 2 ^ 0 ≡ x
whole x = let same : x / 1 ≡ x = omega arith in same

alone : (x : ℕ) → x * 2 ^ 0 ≡ x
alone x = let same : x * 1 ≡ x = omega arith in same

-- the first bits, or all of them with zero bits behind
pub first_bits : (had wants x : ℕ) → x / 2 ^ (had - wants) * 2 ^ (wants - had) ≡ x * 2 ^ wants / 2 ^ had
first_bits m n x =
    elim (cases_lt m n) [
      | inl less ↦
          let none : m - n ≡ 0 = omega arith in
          let more : n ≡ n - m + m = omega arith in
          ap (λ (d : ℕ). x / 2 ^ d * 2 ^ (n - m)) none
          ∙ ap (λ (y : ℕ). y * 2 ^ (n - m)) (whole x)
          ∙ sym (grown x m (n - m))
          ∙ ap (λ (d : ℕ). x * 2 ^ d / 2 ^ m) (sym more)
      | inr least ↦
          let none : n - m ≡ 0 = omega arith in
          let more : m ≡ n + (m - n) = omega arith in
          ap (λ (d : ℕ). x / 2 ^ (m - n) * 2 ^ d) none
          ∙ alone (x / 2 ^ (m - n))
          ∙ sym (cut x n (m - n))
          ∙ ap (λ (d : ℕ). x * 2 ^ n / 2 ^ d) (sym more)
    ]

pub text_cast : (n : ℕ) (to : Kind) (x : ℕ) → x / 2 ^ (8 * n - width_of to) * 2 ^ (width_of to - 8 * n) ≡ cast_of (Text n) to x
text_cast n to x = first_bits (8 * n) (width_of to) x
