-- Numbers in decimal are read as these numbers.
use Rattle.std.proofs.Common.{◌≡◌, ℕ, ◌+◌, ◌-◌, ◌*◌, ◌^◌, ◌<◌, ◌≤◌, Bool, true, false, ◌&&◌, List, [], ◌∷◌, length, map, Option, Some, None, refl, sym, ap, ◌∙◌, arith, le-leb, lt-ltb, lit≤}
use Rattle.std.specs.Prelude.{codes, decimal, nat_le, nat_lt, bytes_eq, if◌then◌else◌}
use Rattle.std.specs.Int.{IsInRange}
use Rattle.std.specs.Char.{to_ascii_lowercase}
use Rattle.std.specs.Str.Parse.{IsNumeral, AllDigits}
use Rattle.std.proofs.lemmas.Bool.{lt-leb, ltb-true, true≢false, false_from_ne_true}
use Rattle.std.proofs.lemmas.Slice.Eq.{bytes_eq-Decides}
use Rattle.std.proofs.lemmas.Str.Parse.{tells_digits, numerals_by_fold, FoldsDigits, IsNumeralModel}
use Rattle.std.proofs.lemmas.Fmt.{decimal_is_IsNumeral_wide}
use Rattle.gl_schema.specs.Names.{is_name, is_digit, begins_with_letter}
use Rattle.gl_values.specs.declared.op.Op.TheVariants as op
use Rattle.gl_bits.proofs.AllLists.{heads}
use Rattle.std.specs.List as lists
use Rattle.gl_query_tokens.specs.declared.token.Fold.TheVariants as fold
use Rattle.gl_query_tokens.specs.declared.token.Join.TheVariants as join
use Rattle.gl_query_tokens.specs.declared.token.Plain.TheVariants as plain
use Rattle.gl_query_tokens.specs.declared.token.Token.{Token}
use Rattle.gl_query_tokens.specs.declared.token.Token.TheVariants as token
use Rattle.gl_query_tokens.specs.declared.token.Word.TheVariants as word
use Rattle.gl_query_tokens.specs.Tokens.{class_of}
use Rattle.gl_query_tokens.specs.Words.{is_keyword, clause_of, frame_word_of, window_of, operator_of, keyword_of, or_else, with_digit, number_of, number_token, word_token}
use Rattle.gl_query_printer.specs.Canonical.{num_of}
use Rattle.gl_query_printer.specs.Spaced.{token_text, place_behind}
use Rattle.gl_query_printer.proofs.Lexed.{Readable, read_word, word_apart}
use Rattle.gl_query_tokens.proofs.Sound.{is_letter, are_letters, is_word}
use Rattle.gl_query_printer.proofs.Places.{placeless}
use Rattle.gl_query_tokens.proofs.Sound.{IsSmall}

-- the number that digits spell behind another
abbrev value_from : ℕ → List ℕ → ℕ
value_from n [] = n
value_from n (c ∷ cs) = value_from (n * 10 + (c - 48)) cs

folds : FoldsDigits value_from
folds = record { empty = λ n. refl; more = λ n c cs r. refl }

own : IsNumeralModel (AllDigits 10) (value_from 0)
own = numerals_by_fold (AllDigits 10) tells_digits value_from folds

grows : (n : ℕ) (ds : List ℕ) → n ≤ value_from n ds
grows n [] = omega arith
grows n (c ∷ cs) = let r = grows (n * 10 + (c - 48)) cs in omega (arith, r)

digit_is : (c : ℕ) → IsInRange 48 57 c → is_digit c ≡ true
digit_is c r = rw (le-leb 48 c r.0, le-leb c 57 r.1) refl

-- below a bound that is no literal
under : (m n k : ℕ) → m ≤ n → nat_lt n k ≡ true → nat_lt m k ≡ true
under m n k le h = let l = ltb-true n k h in lt-ltb m k (omega (arith, l))

turned : (n : ℕ) → n * 10 ≡ 10 * n
turned n = omega arith

with_digit_is : (n c : ℕ) → IsInRange 48 57 c → nat_lt (n * 10 + (c - 48)) (2 ^ 128) ≡ true → with_digit (Some n) c ≡ Some (n * 10 + (c - 48))
with_digit_is n c r h =
    let t : nat_lt (10 * n + (c - 48)) (2 ^ 128) ≡ true = ap (λ m. nat_lt (m + (c - 48)) (2 ^ 128)) (sym (turned n)) ∙ h in
    rw (digit_is c r, t) (ap (λ m. Some (m + (c - 48))) (sym (turned n)))

folded : (n : ℕ) (ds : List ℕ) → AllDigits 10 ds → nat_lt (value_from n ds) (2 ^ 128) ≡ true → lists.fold with_digit (Some n) ds ≡ Some (value_from n ds)
folded n [] d h = refl
folded n (c ∷ cs) d h =
    let p = tells_digits.parts c cs d in
    ap (λ (o : Option ℕ). lists.fold with_digit o cs) (with_digit_is n c p.0 (under (n * 10 + (c - 48)) (value_from (n * 10 + (c - 48)) cs) (2 ^ 128) (grows (n * 10 + (c - 48)) cs) h))
    ∙ folded (n * 10 + (c - 48)) cs p.1 h

-- ---- words of digits

letter_digit : (c : ℕ) → IsInRange 48 57 c → is_letter (class_of c) ≡ true
unfolding class_of
letter_digit c r =
    let a : nat_le 97 c ≡ false = lt-leb 97 c (omega (arith, r.1)) in
    rw (a, le-leb 48 c r.0, le-leb c 57 r.1) refl

letters_digits : (ds : List ℕ) → AllDigits 10 ds → are_letters ds ≡ true
letters_digits [] d = refl
letters_digits (c ∷ cs) d = let p = tells_digits.parts c cs d in rw (letter_digit c p.0, letters_digits cs p.1) refl

lower_digit : (c : ℕ) → IsInRange 48 57 c → to_ascii_lowercase c ≡ c
lower_digit c r = let l : nat_lt c 65 ≡ true = lt-ltb c 65 (omega (arith, r.1)) in rw l refl

-- no keyword begins with a digit
unlike : (a b c d : ℕ) (xs ys : List ℕ) → a ≡ c → b ≡ d → (c ≡ d → ⊥) → bytes_eq (a ∷ xs) (b ∷ ys) ≡ false
unlike a b c d xs ys p q n = false_from_ne_true (bytes_eq (a ∷ xs) (b ∷ ys)) (λ t. n (sym p ∙ heads a b xs ys ((bytes_eq-Decides (a ∷ xs) (b ∷ ys)).0 t) ∙ q))

no_keyword : (c : ℕ) (cs : List ℕ) (k : ℕ) (ks : List ℕ) → IsInRange 48 57 c → to_ascii_lowercase k ≡ k → 58 ≤ k → is_keyword (c ∷ cs) (k ∷ ks) ≡ false
unfolding is_keyword
no_keyword c cs k ks r low high = unlike (to_ascii_lowercase c) (to_ascii_lowercase k) c k (map to_ascii_lowercase cs) (map to_ascii_lowercase ks) (lower_digit c r) low (λ e. let l = r.1 in omega (arith, e, l, high))

-- none of the keywords
record IsNone' (o : Option Token) : Type 0 where
  is : o ≡ None

passes : (b : Bool) (t : Token) (o : Option Token) → b ≡ false → IsNone' o → IsNone' (if b then Some t else o)
passes true t o e h = absurd (true≢false e)
passes false t o e h = h

none : IsNone' None
none = record { is = refl }

no_clause : (c : ℕ) (cs : List ℕ) (at : ℕ) → IsInRange 48 57 c → IsNone' (clause_of (c ∷ cs) at)
no_clause c cs at r = passes (is_keyword (c ∷ cs) (codes "select")) (token.Plain plain.Select) _ (no_keyword c cs 115 (codes "elect") r refl (lit≤ tt)) (passes (is_keyword (c ∷ cs) (codes "from")) (token.Plain plain.From) _ (no_keyword c cs 102 (codes "rom") r refl (lit≤ tt)) (passes (is_keyword (c ∷ cs) (codes "where")) (token.Plain plain.Where) _ (no_keyword c cs 119 (codes "here") r refl (lit≤ tt)) (passes (is_keyword (c ∷ cs) (codes "group")) (token.Plain plain.Group) _ (no_keyword c cs 103 (codes "roup") r refl (lit≤ tt)) (passes (is_keyword (c ∷ cs) (codes "by")) (token.By at) _ (no_keyword c cs 98 (codes "y") r refl (lit≤ tt)) (passes (is_keyword (c ∷ cs) (codes "groups")) (token.Plain plain.Groups) _ (no_keyword c cs 103 (codes "roups") r refl (lit≤ tt)) (passes (is_keyword (c ∷ cs) (codes "into")) (token.Plain plain.Into) _ (no_keyword c cs 105 (codes "nto") r refl (lit≤ tt)) (passes (is_keyword (c ∷ cs) (codes "as")) (token.Plain plain.As) _ (no_keyword c cs 97 (codes "s") r refl (lit≤ tt)) none)))))))

no_window : (c : ℕ) (cs : List ℕ) (at : ℕ) → IsInRange 48 57 c → IsNone' (window_of (c ∷ cs) at)
no_window c cs at r = passes (is_keyword (c ∷ cs) (codes "each")) (token.Each at) _ (no_keyword c cs 101 (codes "ach") r refl (lit≤ tt)) (passes (is_keyword (c ∷ cs) (codes "in")) (token.Plain plain.In) _ (no_keyword c cs 105 (codes "n") r refl (lit≤ tt)) (passes (is_keyword (c ∷ cs) (codes "size")) (token.Size at) _ (no_keyword c cs 115 (codes "ize") r refl (lit≤ tt)) (passes (is_keyword (c ∷ cs) (codes "advance")) (token.Plain plain.Advance) _ (no_keyword c cs 97 (codes "dvance") r refl (lit≤ tt)) (passes (is_keyword (c ∷ cs) (codes "tuples")) (token.Plain plain.Tuples) _ (no_keyword c cs 116 (codes "uples") r refl (lit≤ tt)) (passes (is_keyword (c ∷ cs) (codes "time")) (token.Plain plain.Time) _ (no_keyword c cs 116 (codes "ime") r refl (lit≤ tt)) (passes (is_keyword (c ∷ cs) (codes "union")) (token.Join join.Union at) _ (no_keyword c cs 117 (codes "nion") r refl (lit≤ tt)) (passes (is_keyword (c ∷ cs) (codes "concat")) (token.Join join.Concat at) _ (no_keyword c cs 99 (codes "oncat") r refl (lit≤ tt)) none)))))))

no_operator : (c : ℕ) (cs : List ℕ) (at : ℕ) → IsInRange 48 57 c → IsNone' (operator_of (c ∷ cs) at)
no_operator c cs at r = passes (is_keyword (c ∷ cs) (codes "and")) (token.Operator op.And at) _ (no_keyword c cs 97 (codes "nd") r refl (lit≤ tt)) (passes (is_keyword (c ∷ cs) (codes "or")) (token.Operator op.Or at) _ (no_keyword c cs 111 (codes "r") r refl (lit≤ tt)) (passes (is_keyword (c ∷ cs) (codes "not")) (token.Not at) _ (no_keyword c cs 110 (codes "ot") r refl (lit≤ tt)) (passes (is_keyword (c ∷ cs) (codes "cast")) (token.Cast at) _ (no_keyword c cs 99 (codes "ast") r refl (lit≤ tt)) (passes (is_keyword (c ∷ cs) (codes "count")) (token.Count at) _ (no_keyword c cs 99 (codes "ount") r refl (lit≤ tt)) (passes (is_keyword (c ∷ cs) (codes "sum")) (token.Fold fold.Sum at) _ (no_keyword c cs 115 (codes "um") r refl (lit≤ tt)) (passes (is_keyword (c ∷ cs) (codes "min")) (token.Fold fold.Min at) _ (no_keyword c cs 109 (codes "in") r refl (lit≤ tt)) (passes (is_keyword (c ∷ cs) (codes "max")) (token.Fold fold.Max at) _ (no_keyword c cs 109 (codes "ax") r refl (lit≤ tt)) (passes (is_keyword (c ∷ cs) (codes "avg")) (token.Fold fold.Avg at) _ (no_keyword c cs 97 (codes "vg") r refl (lit≤ tt)) (passes (is_keyword (c ∷ cs) (codes "wsum")) (token.Wsum at) _ (no_keyword c cs 119 (codes "sum") r refl (lit≤ tt)) none)))))))))

some_none : (t : Token) → None ≡ Some t → ⊥
some_none t h = absurd (cc)

neither : (a b : Option Token) → IsNone' a → IsNone' b → IsNone' (or_else a b)
neither None b p q = q
neither (Some t) b p q = absurd (some_none t (sym p.is))

no_keywords : (c : ℕ) (cs : List ℕ) (at : ℕ) → IsInRange 48 57 c → keyword_of (c ∷ cs) at ≡ None
no_keywords c cs at r =
    (neither (clause_of (c ∷ cs) at) (or_else (window_of (c ∷ cs) at) (operator_of (c ∷ cs) at)) (no_clause c cs at r)
    (neither (window_of (c ∷ cs) at) (operator_of (c ∷ cs) at) (no_window c cs at r) (no_operator c cs at r))).is

not_both : (a b c d : Bool) → (a && false && b && c && d) ≡ false
not_both true b c d = refl
not_both false b c d = refl

no_frame_word : (c : ℕ) (cs : List ℕ) (at : ℕ) → IsInRange 48 57 c → IsNone' (frame_word_of (c ∷ cs) at)
no_frame_word c cs at r = passes (is_keyword (c ∷ cs) (codes "over")) (token.Word word.Over at) _ (no_keyword c cs 111 (codes "ver") r refl (lit≤ tt)) (passes (is_keyword (c ∷ cs) (codes "filter")) (token.Word word.Filter at) _ (no_keyword c cs 102 (codes "ilter") r refl (lit≤ tt)) (passes (is_keyword (c ∷ cs) (codes "partition")) (token.Word word.Partition at) _ (no_keyword c cs 112 (codes "artition") r refl (lit≤ tt)) (passes (is_keyword (c ∷ cs) (codes "rows")) (token.Word word.Rows at) _ (no_keyword c cs 114 (codes "ows") r refl (lit≤ tt)) (passes (is_keyword (c ∷ cs) (codes "preceding")) (token.Word word.Preceding at) _ (no_keyword c cs 112 (codes "receding") r refl (lit≤ tt)) (passes (is_keyword (c ∷ cs) (codes "unbounded")) (token.Word word.Unbounded at) _ (no_keyword c cs 117 (codes "nbounded") r refl (lit≤ tt)) (passes (is_keyword (c ∷ cs) (codes "between")) (token.Word word.Between at) _ (no_keyword c cs 98 (codes "etween") r refl (lit≤ tt)) (passes (is_keyword (c ∷ cs) (codes "current")) (token.Word word.Current at) _ (no_keyword c cs 99 (codes "urrent") r refl (lit≤ tt)) (passes (is_keyword (c ∷ cs) (codes "row")) (token.Word word.Row at) _ (no_keyword c cs 114 (codes "ow") r refl (lit≤ tt)) (passes (is_keyword (c ∷ cs) (codes "lag")) (token.Word word.Lag at) _ (no_keyword c cs 108 (codes "ag") r refl (lit≤ tt)) (passes (is_keyword (c ∷ cs) (codes "last_value")) (token.Word word.LastValue at) _ (no_keyword c cs 108 (codes "ast_value") r refl (lit≤ tt)) (passes (is_keyword (c ∷ cs) (codes "arrival")) (token.Word word.Arrival at) _ (no_keyword c cs 97 (codes "rrival") r refl (lit≤ tt)) (passes (is_keyword (c ∷ cs) (codes "asof")) (token.Word word.AsOf at) _ (no_keyword c cs 97 (codes "sof") r refl (lit≤ tt)) none))))))))))))

no_name : (c : ℕ) (cs : List ℕ) → IsInRange 48 57 c → is_name (c ∷ cs) ≡ false
unfolding is_name begins_with_letter
no_name c cs r =
    let a : nat_le 97 c ≡ false = lt-leb 97 c (let l = r.1 in omega (arith, l)) in
    rw a (not_both (nat_le (length (c ∷ cs)) 32) _ _ _)

word_of_digits : (c : ℕ) (cs : List ℕ) (at : ℕ) → IsInRange 48 57 c → word_token (c ∷ cs) at ≡ number_token (number_of (c ∷ cs)) at
unfolding word_token
word_of_digits c cs at r = rw (no_keywords c cs at r, no_name c cs r, (no_frame_word c cs at r).is) refl

-- a numeral is read as its number
record IsDecimal (ds : List ℕ) (n : ℕ) : Type 0 where
  digits' : AllDigits 10 ds
  value : value_from 0 ds ≡ n

numeral_token : (ds : List ℕ) (n : ℕ) (at : ℕ) → is_word ds ≡ true → IsDecimal ds n → IsSmall n → placeless (word_token ds at) ≡ token.Number (num_of n)
unfolding number_of
numeral_token [] n at w d h = absurd (true≢false (sym w))
numeral_token (c ∷ cs) n at w d h =
    let p = tells_digits.parts c cs d.digits' in
    let v = d.value in
    let f = folded 0 (c ∷ cs) d.digits' (ap (λ m. nat_lt m (2 ^ 128)) v ∙ h) in
    ap placeless (word_of_digits c cs at p.0 ∙ ap (λ (o : Option ℕ). number_token o at) (f ∙ ap Some v))

is_word_digits : (ds : List ℕ) → IsNumeral 10 ds → is_word ds ≡ true
is_word_digits [] d = absurd (let l = d.0 in omega (arith, l))
is_word_digits (c ∷ cs) d = letters_digits (c ∷ cs) d.1

pub number_readable : (n : ℕ) → IsSmall n → Readable (token.Number (num_of n))
unfolding token_text place_behind
number_readable n h =
    let w : n < 10 ^ 64 = let l = ltb-true n (2 ^ 128) h in omega (arith, l) in
    let d = decimal_is_IsNumeral_wide n w in
    let z : IsDecimal (decimal n) n = record { digits' = d.0.1; value = own.same (decimal n) d.0.1 ∙ d.1 } in
    let word = is_word_digits (decimal n) d.0 in
    record {
      reads = λ p at bs e. read_word (decimal n) (token.Number (num_of n)) word (λ a. numeral_token (decimal n) n a word z h) at bs e;
      apart = λ is more. word_apart (decimal n) more word;
    }
