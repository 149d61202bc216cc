-- Numbers in decimal, and the first line and the first field of what begins with one.
use Rattle.std.proofs.Common.{◌≡◌, ℕ, zero, suc, ◌+◌, ◌-◌, ◌*◌, ◌/◌, ◌%◌, ◌^◌, ◌<◌, ◌≤◌, Bool, true, false, List, [], ◌∷◌, ◌++◌, length, take, drop, Some, refl, ap, ◌∙◌, arith, le-leb, lt-ltb, ne_eqb, length-append}
use Rattle.std.specs.Prelude.{decimal, nat_lt, ◌==◌, if◌then◌else◌}
use Rattle.std.specs.Fmt.{digit_glyph, digits, digits_onto}
use Rattle.std.specs.List.{AllByRecursion, fold, list_all, position_or_len}
use Rattle.std.specs.Str.Parse.{AllDigits}
use Rattle.std.proofs.Math.Seq.{take-append_seam}
use Rattle.std.proofs.lemmas.Fmt.{decimal_is_IsNumeral}
use Rattle.std.proofs.lemmas.Str.Parse.{FoldsDigits, IsNumeralModel, numerals_by_fold, tells_digits}
use Rattle.gl_schema.specs.Names.{is_digit}
use Rattle.gl_tuples.specs.Values.{are_digits, is_number, number_in, number_of}
use Rattle.gl_load.specs.Tallies.{before_place, behind_comma, behind_place, comma_in, first_field, in_front, lines_of}

-- no byte is below this one
abbrev pub From : ℕ → List ℕ → Type 0
From least bytes = AllByRecursion (λ b. least ≤ b) bytes

-- ---- numbers in decimal

glyph_from : (d : ℕ) → 45 ≤ digit_glyph false d
glyph_from d = by (nat_lt d 10)
  where
    by : (b : Bool) → 45 ≤ (if b then 48 + d else 87 + d)
    by true = omega arith
    by false = omega arith

digits_from : (k n : ℕ) (acc : List ℕ) → From 45 acc → From 45 (digits_onto k 10 false n acc)
digits_from zero n acc h = h
digits_from (suc k) n acc h = by (n / 10 == 0) (digits_from k (n / 10) (digit_glyph false (n % 10) ∷ acc) (glyph_from (n % 10), h))
  where
    by : (b : Bool) → From 45 (digits_onto k 10 false (n / 10) (digit_glyph false (n % 10) ∷ acc))
        → From 45 (if b then digit_glyph false (n % 10) ∷ acc else digits_onto k 10 false (n / 10) (digit_glyph false (n % 10) ∷ acc))
    by true rest = (glyph_from (n % 10), h)
    by false rest = rest

-- no byte of a number is a comma or a line feed
pub decimal_from : (n : ℕ) → From 45 (decimal n)
unfolding digits
decimal_from n = digits_from 64 n [] tt

are_all : (ds : List ℕ) → AllDigits 10 ds → list_all is_digit ds ≡ true
are_all [] d = refl
are_all (c ∷ cs) d = let p = tells_digits.parts c cs d in rw (le-leb 48 c p.0.0, le-leb c 57 p.0.1, are_all cs p.1) refl

value_from : ℕ → List ℕ → ℕ
value_from n ds = fold (λ m b. 10 * m + (b - 48)) n ds

turned : (n : ℕ) → 10 * n ≡ n * 10
turned n = omega arith

folds : FoldsDigits value_from
unfolding value_from
folds = record { empty = λ n. refl; more = λ n c cs r. ap (λ (m : ℕ). value_from (m + (c - 48)) cs) (turned n) }

own : IsNumeralModel (AllDigits 10) (value_from 0)
own = numerals_by_fold (AllDigits 10) tells_digits value_from folds

-- it is read as the number
pub number_read : (v : ℕ) → v < 2 ^ 64 → number_of (decimal v) ≡ Some v
unfolding number_of is_number are_digits number_in value_from
number_read v small =
    let d = decimal_is_IsNumeral v small in
    let some : (length (decimal v) == 0) ≡ false = ne_eqb (length (decimal v)) 0 (λ e. let l = d.0.0 in omega (arith, e, l)) in
    rw (some, are_all (decimal v) d.0.1) (ap Some (own.same (decimal v) d.0.1 ∙ d.1))

-- ---- the first line and the first field

pub line_first : (line rest : List ℕ) → From 11 line → lines_of (line ++ 10 ∷ rest) ≡ line ∷ lines_of rest
line_first [] rest h = refl
line_first (b ∷ bs) rest h = rw (ne_eqb b 10 (λ e. let l = h.0 in omega (arith, e, l))) (ap (in_front b) (line_first bs rest h.1))

comma_behind : (front rest : List ℕ) → From 45 front → position_or_len (λ b. b == 44) (front ++ 44 ∷ rest) ≡ length front
comma_behind [] rest h = refl
comma_behind (b ∷ bs) rest h = let r = comma_behind bs rest h.1 in rw (ne_eqb b 44 (λ e. let l = h.0 in omega (arith, e, l))) (omega (arith, r))

comma_found : (front rest : List ℕ) → From 45 front → comma_in (front ++ 44 ∷ rest) ≡ Some (length front)
comma_found front rest h =
    let below : nat_lt (length front) (length (front ++ 44 ∷ rest)) ≡ true = lt-ltb (length front) (length (front ++ 44 ∷ rest)) (omega (arith, length-append front (44 ∷ rest))) in
    rw (comma_behind front rest h, below) refl

dropped : (front rest : List ℕ) (b : ℕ) → drop (length front + 1) (front ++ b ∷ rest) ≡ rest
dropped [] rest b = refl
dropped (f ∷ fs) rest b =
    let place : suc (length fs) + 1 ≡ suc (length fs + 1) = omega arith in
    ap (λ (i : ℕ). drop i (f ∷ (fs ++ b ∷ rest))) place ∙ dropped fs rest b

pub field_first : (front rest : List ℕ) → From 45 front → first_field (front ++ 44 ∷ rest) ≡ front
field_first front rest h = ap (before_place (front ++ 44 ∷ rest)) (comma_found front rest h) ∙ take-append_seam front (44 ∷ rest)

pub field_behind : (front rest : List ℕ) → From 45 front → behind_comma (front ++ 44 ∷ rest) ≡ rest
field_behind front rest h = ap (behind_place (front ++ 44 ∷ rest)) (comma_found front rest h) ∙ dropped front rest 44
