-- Averages, from a sum, a count and a quotient.
use Rattle.std.proofs.Common.{◌≡◌, ◌≢◌, ℕ, suc, ◌+◌, ◌-◌, ◌/◌, ◌%◌, ◌^◌, ◌<◌, ◌≤◌, Bool, true, false, inl, inr, refl, sym, ap, ◌∙◌, arith}
use Rattle.std.specs.Prelude.{ℤ, pos, if◌then◌else◌, int_div, nat_eq}
use Rattle.std.proofs.Math.Nat.{div-le_self, mod-eq_of_lt, mod-lt, mod_self, zero-div, zero-mod}
use Rattle.std.proofs.lemmas.Bool.{cases_lt, eqb-false, le-ltb, lt-ltb}
use Rattle.std.proofs.lemmas.Nat.{pow_pos}
use Rattle.gl_values.proofs.Signs.{half_of, low_number}
use Rattle.gl_values.proofs.Totalling.{quotient_high, quotient_plain, words_sum}
use Rattle.gl_values.specs.Kinds.{number_of, signed_number, word_of}
use Rattle.gl_values.specs.Totals.{quotient_of, sum_of_numbers, sum_total}
use Rattle.gl_bits.specs.Words.{choose_of, difference_of}
use Rattle.gl_values.specs.declared.kind.Kind.{Kind}
use Rattle.gl_values.specs.declared.kind.Kind.TheVariants.{Unsigned}
use Rattle.gl_divide.specs.Division.{highest}
use Rattle.gl_divide.proofs.BitLemmas.{highest_none, highest_some}
use Rattle.gl_net.specs.declared.node.Bus.{Bus}
use Rattle.gl_net.specs.declared.node.Bit.{Bit}
use Rattle.gl_net.specs.Net.{Run}
use Rattle.gl_wire.specs.Gates.{same_at}
use Rattle.gl_wire.specs.Wire.{line_at}
use Rattle.gl_wire.proofs.GateLemmas.{choose_line}
use Rattle.gl_totals.specs.Open.{values_at}
use Rattle.gl_totals.specs.declared.rows.Rows.{Rows}
use Rattle.gl_totals.proofs.ValueLemmas.{values_through}

-- a choice by whether a bus carries 0
pub choose_empty : (run : Run) (line : Bit) (bottom none : Bus) (t x given n : ℕ) → line_at run line (suc t) ≡ same_at run bottom none (suc t) → run.at (suc t) none.node ≡ 0
    → x ≡ n → choose_of (run.at (suc t) line.node) x given ≡ (if nat_eq (run.at (suc t) bottom.node) 0 then n else given)
choose_empty run line bottom none t x given n is naught same =
    choose_line run line x given t ∙ ap (λ (b : Bool). if b then x else given) (is ∙ ap (nat_eq (run.at (suc t) bottom.node)) naught)
    ∙ ap (λ (m : ℕ). if nat_eq (run.at (suc t) bottom.node) 0 then m else given) same

-- the numbers of the values in a wider word
pub values_numbers : (run : Run) (rows : Rows) (kind : Kind) (value wide : Bus) (w : ℕ)
    → ((t : ℕ) → run.at t wide.node ≡ word_of w (number_of kind (run.at t value.node))) → (t : ℕ)
    → sum_total w (values_at run rows wide t) ≡ word_of w (sum_of_numbers kind (values_at run rows value t))
values_numbers run rows kind value wide w h t =
    ap (sum_total w) (values_through run rows value wide (λ (x : ℕ). word_of w (number_of kind x)) (λ u. h (suc u)) t) ∙ words_sum kind w (values_at run rows value t)

-- ---- quotients

not_empty : (s c : ℕ) → nat_eq c 0 ≡ false → (if nat_eq c 0 then 0 else s) / (if nat_eq c 0 then 1 else c) ≡ s / c
not_empty s c e = ap (λ (b : Bool). (if b then 0 else s) / (if b then 1 else c)) e

empty : (s c : ℕ) → nat_eq c 0 ≡ true → (if nat_eq c 0 then 0 else s) / (if nat_eq c 0 then 1 else c) ≡ 0
empty s c e = ap (λ (b : Bool). (if b then 0 else s) / (if b then 1 else c)) e ∙ zero-div 1

nothing : (w c : ℕ) (z : ℤ) → nat_eq c 0 ≡ true → word_of w (quotient_of z c) ≡ 0
nothing w c z e = ap (λ (b : Bool). word_of w (if b then pos 0 else int_div z (pos c))) e ∙ zero-mod (2 ^ w)

-- a divider behind a guard, of a top without a sign
pub divided_is : (w s c : ℕ) → s < 2 ^ w → (if nat_eq c 0 then 0 else s) / (if nat_eq c 0 then 1 else c) ≡ word_of w (quotient_of (pos s) c)
divided_is w s c fits = by (nat_eq c 0) refl
  where
    by : (b : Bool) → nat_eq c 0 ≡ b → (if nat_eq c 0 then 0 else s) / (if nat_eq c 0 then 1 else c) ≡ word_of w (quotient_of (pos s) c)
    by true e = empty s c e ∙ sym (nothing w c (pos s) e)
    by false e =
        let less : s / c ≤ s = div-le_self s c in
        let below : s / c < 2 ^ w = omega (arith, less, fits) in
        not_empty s c e ∙ sym (mod-eq_of_lt below) ∙ quotient_plain (Unsigned 1) w w s c refl (eqb-false c 0 e)

-- the bottom is never 0 behind the guard
pub guarded_some : (c : ℕ) → (if nat_eq c 0 then 1 else c) ≢ 0
guarded_some c = by (nat_eq c 0) refl
  where
    by : (b : Bool) → nat_eq c 0 ≡ b → (if nat_eq c 0 then 1 else c) ≢ 0
    by true e z = let one = ap (λ (b : Bool). if b then 1 else c) e in absurd (omega (arith, sym one ∙ z))
    by false e z = eqb-false c 0 e (sym (ap (λ (b : Bool). if b then 1 else c) e) ∙ z)

-- the highest bit tells the sign
sign_low : (w s : ℕ) → 1 ≤ w → s < 2 ^ (w - 1) → highest w s ≡ false
sign_low w s some lt = let e : w ≡ suc (w - 1) = omega (arith, some) in highest_none w (w - 1) s e lt

sign_high : (w s : ℕ) → 1 ≤ w → 2 ^ (w - 1) ≤ s → s < 2 ^ w → highest w s ≡ true
sign_high w s some ge fits =
    let e : w ≡ suc (w - 1) = omega (arith, some) in
    let parts : s ≡ 2 ^ (w - 1) + (s - 2 ^ (w - 1)) = omega (arith, ge) in
    let below : s - 2 ^ (w - 1) < 2 ^ (w - 1) = omega (arith, half_of w some, ge, fits) in
    highest_some w (w - 1) s (s - 2 ^ (w - 1)) e parts below

-- the size of a top with a sign, and its quotient with the sign
abbrev pub size_of_top : ℕ → ℕ → ℕ
size_of_top w s = if highest w s then difference_of w 0 s else s

pub signed_is : (w s c : ℕ) → 1 ≤ w → s < 2 ^ w
    → (if highest w s then difference_of w 0 (word_of w (quotient_of (pos (size_of_top w s)) c)) else word_of w (quotient_of (pos (size_of_top w s)) c))
    ≡ word_of w (quotient_of (signed_number w s) c)
unfolding difference_of
signed_is w s c some fits = elim (cases_lt s (2 ^ (w - 1))) [
  | inl lt ↦
      ap (λ (b : Bool). if b then difference_of w 0 (word_of w (quotient_of (pos (if b then difference_of w 0 s else s)) c))
      else word_of w (quotient_of (pos (if b then difference_of w 0 s else s)) c)) (sign_low w s some lt)
      ∙ sym (ap (λ (z : ℤ). word_of w (quotient_of z c)) (low_number w s (lt-ltb s (2 ^ (w - 1)) lt)))
  | inr ge ↦
      ap (λ (b : Bool). if b then difference_of w 0 (word_of w (quotient_of (pos (if b then difference_of w 0 s else s)) c))
      else word_of w (quotient_of (pos (if b then difference_of w 0 s else s)) c)) (sign_high w s some ge fits)
      ∙ by (nat_eq c 0) refl ge
]
  where
    by : (b : Bool) → nat_eq c 0 ≡ b → 2 ^ (w - 1) ≤ s → difference_of w 0 (word_of w (quotient_of (pos (difference_of w 0 s)) c)) ≡ word_of w (quotient_of (signed_number w s) c)
    by true e ge =
        let zero : (0 + (2 ^ w - 0)) % 2 ^ w ≡ 0 = (let whole : 0 + (2 ^ w - 0) ≡ 2 ^ w = omega arith in ap (λ (k : ℕ). k % 2 ^ w) whole ∙ mod_self (2 ^ w)) in
        ap (difference_of w 0) (nothing w c (pos (difference_of w 0 s)) e) ∙ zero ∙ sym (nothing w c (signed_number w s) e)
    by false e ge =
        let most : 1 ≤ 2 ^ (w - 1) = pow_pos (w - 1) in
        let left : 0 + (2 ^ w - s) < 2 ^ w = omega (arith, most, ge, fits) in
        let plain : 0 + (2 ^ w - s) ≡ 2 ^ w - s = omega arith in
        let size : difference_of w 0 s ≡ 2 ^ w - s = mod-eq_of_lt left ∙ plain in
        let less : (2 ^ w - s) / c ≤ 2 ^ w - s = div-le_self (2 ^ w - s) c in
        let below : (2 ^ w - s) / c < 2 ^ w = omega (arith, less, left, plain) in
        let quotient : word_of w (quotient_of (pos (difference_of w 0 s)) c) ≡ (2 ^ w - s) / c =
        ap (λ (k : ℕ). word_of w (quotient_of (pos k) c)) size ∙ sym (quotient_plain (Unsigned 1) w w (2 ^ w - s) c refl (eqb-false c 0 e)) ∙ mod-eq_of_lt below in
        let room : 1 ≤ 2 ^ w = pow_pos w in
        let word : (0 + (2 ^ w - (2 ^ w - s) / c)) % 2 ^ w < 2 ^ w = mod-lt (0 + (2 ^ w - (2 ^ w - s) / c)) room in
        ap (difference_of w 0) quotient ∙ sym (mod-eq_of_lt word)
        ∙ quotient_high w w w s c (le-ltb s (2 ^ (w - 1)) ge) fits (eqb-false c 0 e) (omega arith) (omega arith)
