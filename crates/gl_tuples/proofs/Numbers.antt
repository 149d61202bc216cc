-- Numbers and texts of fields.
use Rattle.std.proofs.Common.{◌≡◌, ℕ, ◌+◌, ◌-◌, ◌*◌, ◌<◌, ◌≤◌, ◌^◌, min, true, false, List, length, take, get_or, refl, sym, ap, ◌∙◌, arith, inl, inr, Option, Some, None, ◌↔◌}
use Rattle.std.specs.Prelude.{◌%◌, ◌==◌, IsUtf8, IsSome, IfSome, nat_le, option_map, pos}
use Rattle.std.specs.List.{fold}
use Rattle.std.specs.Str.Lossy.{utf8_valid_len}
use Rattle.std.proofs.lemmas.Bool.{eq-eqb, ne_eqb, cases_Bool, cases_lt, false≢true, leb-true, true≢false}
use Rattle.std.proofs.lemmas.Str.{utf8_valid_len-IsUtf8}
use Rattle.std.proofs.lemmas.List.Sums.{fold_more}
use Rattle.std.proofs.Math.Nat.{min-eq_left, min-eq_right, mod-eq_of_lt, pow-le-pow_right}
use Rattle.gl_values.specs.declared.kind.Kind.{Kind}
use Rattle.gl_values.specs.Kinds.{IsKind, has_negative, in_range, is_signed, negative_word, width_of}
use Rattle.gl_bits.specs.Words.{Word}
use Rattle.gl_bits.proofs.Bools.{and_right}
use Rattle.gl_values.proofs.KindLemmas.{range_below}
use Rattle.gl_tuples.specs.Values.{fitting, fitting_negative, number_in}

pub text_is_utf8 : (bs : List ℕ) → IsUtf8 bs → (utf8_valid_len bs == length bs) ≡ true
text_is_utf8 bs h = eq-eqb (utf8_valid_len bs) (length bs) (utf8_valid_len-IsUtf8 bs h)

pub short_is_no_text : (bs : List ℕ) (n : ℕ) → n ≡ utf8_valid_len bs → n < length bs → (utf8_valid_len bs == length bs) ≡ false
short_is_no_text bs n e lt = ne_eqb (utf8_valid_len bs) (length bs) (λ q. absurd (omega (arith, e, q)))

pub ruleset utf8_steps = (text_is_utf8, short_is_no_text)

-- a number that is kept at most m
tops : (v d m : ℕ) → min (10 * min v m + d) m ≡ min (10 * v + d) m
tops v d m = elim (cases_lt v m) [
  | inl lt ↦ ap (λ (x : ℕ). min (10 * x + d) m) (min-eq_left {n = v} {m = m} (omega arith))
  | inr le ↦ ap (λ (x : ℕ). min (10 * x + d) m) (min-eq_right {n = m} {m = v} le) ∙ min-eq_right {n = m} {m = 10 * m + d} (omega arith) ∙ sym (min-eq_right {n = m} {m = 10 * v + d} (omega arith))
]

-- a digit more, with a top
pub digit_more : (digits : List ℕ) (i n : ℕ) → i < length digits → n ≡ min (number_in (take i digits)) (2 ^ 64) → min (10 * n + (get_or digits i 0 - 48)) (2 ^ 64) ≡ min (number_in (take (i + 1) digits)) (2 ^ 64)
unfolding number_in
digit_more digits i n lt e =
    ap (λ (x : ℕ). min (10 * x + (get_or digits i 0 - 48)) (2 ^ 64)) e
    ∙ tops (fold (λ n b. 10 * n + (b - 48)) 0 (take i digits)) (get_or digits i 0 - 48) (2 ^ 64)
    ∙ ap (λ (x : ℕ). min x (2 ^ 64)) (sym (fold_more (λ n b. 10 * n + (b - 48)) 0 digits i 0 lt))

pub none_yet : (digits : List ℕ) → 0 ≡ min (number_in (take 0 digits)) (2 ^ 64)
unfolding number_in
none_yet digits = refl

some_word : (x : Word) (bits width : ℕ) → x.bits ≡ bits → x.width ≡ width → ◌≡◌ {A = Option Word} (Some x) (Some (record { bits = bits; width = width }))
some_word x bits width b w = rw (← b, ← w) refl

-- what `Word::new` answers of a number that fits
pub word_made : (r : Option Word) (bits width : ℕ) → (IsSome r ↔ ((1 ≤ width) × (width ≤ 128) × (bits < 2 ^ width))) → IfSome r (λ w. w.bits ≡ bits) → IfSome r (λ w. w.width ≡ width) → 1 ≤ width → width ≤ 128 → bits < 2 ^ width → r ≡ Some (record { bits = bits; width = width })
word_made None bits width given b w low high lt = absurd (false≢true (given.1 (low, high, lt)))
word_made (Some x) bits width given b w low high lt = some_word x bits width b w

-- ---- numbers of a kind, read as far as 64 bits hold them

abbrev topped : Option ℕ → Option ℕ
topped o = option_map (λ n. min n (2 ^ 64)) o

narrow : (kind : Kind) → IsKind kind → 2 ^ width_of kind ≤ 2 ^ 64
narrow kind is = pow-le-pow_right {n = 2} (omega arith) {i = width_of kind} {j = 64} is.1

pub none_fits : (kind : Kind) (o : Option ℕ) → None ≡ topped o → None ≡ fitting kind o
none_fits kind None e = refl
none_fits kind (Some n) e = absurd cc

-- one that is in range is read as it is
as_read : (n x : ℕ) → min n (2 ^ 64) ≡ x → x < 2 ^ 64 → n ≡ x
as_read n x e lt = elim (cases_lt n (2 ^ 64)) [
  | inl small ↦ (let s = min-eq_left {n = n} {m = 2 ^ 64} (omega arith) in sym s ∙ e)
  | inr le ↦ (let s = min-eq_right {n = 2 ^ 64} {m = n} le in absurd (omega (arith, s, e, lt)))
]

pub in_range_fits : (kind : Kind) (o : Option ℕ) (x : ℕ) → IsKind kind → Some x ≡ topped o → true ≡ in_range kind (pos x)
    → Some (record { bits = x; width = width_of kind }) ≡ fitting kind o
in_range_fits kind None x is e t = absurd cc
in_range_fits kind (Some n) x is e t =
    let below = range_below kind x (sym t) in
    let most = narrow kind is in
    let same : n ≡ x = as_read n x (same_some e) (omega (arith, below, most)) in
    let whole : x % 2 ^ width_of kind ≡ x = mod-eq_of_lt below in
    let word : Some (record { bits = x; width = width_of kind }) ≡ fitting kind (Some x) =
    rw (sym t) (ap (λ (b : ℕ). Some (record { bits = b; width = width_of kind })) (sym whole)) in
    word ∙ ap (λ (m : ℕ). fitting kind (Some m)) (sym same)
  where
    same_some : Some x ≡ Some (min n (2 ^ 64)) → min n (2 ^ 64) ≡ x
    same_some h = cc

-- one that is not, however it is read, is not
pub past_range_fits : (kind : Kind) (o : Option ℕ) (x : ℕ) → IsKind kind → Some x ≡ topped o → false ≡ in_range kind (pos x)
    → None ≡ fitting kind o
past_range_fits kind None x is e f = absurd cc
past_range_fits kind (Some n) x is e f = elim (cases_Bool (in_range kind (pos n))) [
  | inl t ↦
      let below = range_below kind n t in
      let most = narrow kind is in
      let same : n ≡ x = sym (min-eq_left {n = n} {m = 2 ^ 64} (omega (arith, below, most))) ∙ same_some e in
      absurd (true≢false (sym t ∙ ap (λ (m : ℕ). in_range kind (pos m)) same ∙ sym f))
  | inr past ↦ rw past refl
]
  where
    same_some : Some x ≡ Some (min n (2 ^ 64)) → min n (2 ^ 64) ≡ x
    same_some h = cc

-- ---- behind a minus sign

-- 64 bits hold all that a kind has
half_narrow : (kind : Kind) (n : ℕ) → IsKind kind → has_negative kind n ≡ true → n < 2 ^ 64
half_narrow kind n is h =
    let most : n ≤ 2 ^ (width_of kind - 1) =
    leb-true n (2 ^ (width_of kind - 1)) (and_right (is_signed kind) (nat_le n (2 ^ (width_of kind - 1))) h) in
    let half : 2 ^ (width_of kind - 1) ≤ 2 ^ 63 =
    pow-le-pow_right {n = 2} (omega arith) {i = width_of kind - 1} {j = 63} (omega (arith, is.1)) in
    omega (arith, most, half)

pub none_negative : (kind : Kind) (o : Option ℕ) → None ≡ topped o → None ≡ fitting_negative kind o
none_negative kind None e = refl
none_negative kind (Some n) e = absurd cc

pub negative_fits : (kind : Kind) (o : Option ℕ) (x : ℕ) → IsKind kind → Some x ≡ topped o → true ≡ has_negative kind x
    → Some (record { bits = negative_word kind x; width = width_of kind }) ≡ fitting_negative kind o
negative_fits kind None x is e t = absurd cc
negative_fits kind (Some n) x is e t =
    let same : n ≡ x = as_read n x (same_some e) (half_narrow kind x is (sym t)) in
    let word : Some (record { bits = negative_word kind x; width = width_of kind }) ≡ fitting_negative kind (Some x) = rw (sym t) refl in
    word ∙ ap (λ (m : ℕ). fitting_negative kind (Some m)) (sym same)
  where
    same_some : Some x ≡ Some (min n (2 ^ 64)) → min n (2 ^ 64) ≡ x
    same_some h = cc

pub past_negative : (kind : Kind) (o : Option ℕ) (x : ℕ) → IsKind kind → Some x ≡ topped o → false ≡ has_negative kind x
    → None ≡ fitting_negative kind o
past_negative kind None x is e f = absurd cc
past_negative kind (Some n) x is e f = elim (cases_Bool (has_negative kind n)) [
  | inl t ↦
      let small = half_narrow kind n is t in
      let same : n ≡ x = sym (min-eq_left {n = n} {m = 2 ^ 64} (omega (arith, small))) ∙ same_some e in
      absurd (true≢false (sym t ∙ ap (has_negative kind) same ∙ sym f))
  | inr past ↦ rw past refl
]
  where
    same_some : Some x ≡ Some (min n (2 ^ 64)) → min n (2 ^ 64) ≡ x
    same_some h = cc
