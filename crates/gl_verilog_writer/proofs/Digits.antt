-- Names and numbers as tokens.
use Rattle.std.proofs.Common.{◌≡◌, ℕ, ◌-◌, ◌<◌, ◌≤◌, ◌^◌, Bool, true, false, ◌||◌, ◌&&◌, List, [], ◌∷◌, ◌++◌, length, Option, None, refl, sym, ap, ◌∙◌, append_assoc, append-nil, length-append, arith, inl, inr, le-leb, lt-ltb, ne_eqb, leb-true}
use Rattle.std.specs.Prelude.{codes, decimal, nat_eq, nat_le, nat_lt, bytes_eq}
use Rattle.std.specs.List.{AllByRecursion, list_all, list_any}
use Rattle.std.specs.Int.{IsInRange}
use Rattle.std.specs.Str.Parse.{IsNumeral, AllDigits}
use Rattle.std.proofs.lemmas.Bool.{lt-leb}
use Rattle.std.proofs.lemmas.Str.Parse.{tells_digits, numerals_by_fold, FoldsDigits, IsNumeralModel}
use Rattle.std.proofs.lemmas.Fmt.{decimal_is_IsNumeral_wide, length-decimal-le}
use Rattle.gl_bits.proofs.Bools.{or_cases, or_right, and_both, and_parts, neither_parts}
use Rattle.gl_net.specs.Finished as net
use Rattle.gl_net.specs.Finished.{IsName, keywords}
use Rattle.gl_verilog.specs.Tokens.{Token, Name, Number, Sized, Keyword, Class, Letter, Digit, Between, InWord, InNumber, AtBase, InDigits, Move, to, after, scan, fresh, fresh_by, in_word, in_number, in_digits, at_base, class_of, is_letter, is_digit_of, goes_on, number_from, number_in, number_token, sized_token, reserved, word_by, word_token, Reads, ClosesWord, ClosesNumber, ClosesDigits}
use Rattle.gl_verilog.proofs.Pieces.{scan-append}
use Rattle.gl_verilog_writer.specs.Pieces.{family_text, net_name}

-- ---- bytes

class_digit : (c : ℕ) → IsInRange 48 57 c → class_of c ≡ Digit
class_digit c r =
    let a : nat_le 97 c ≡ false = lt-leb 97 c (omega (arith, r.1)) in
    let b : nat_le 65 c ≡ false = lt-leb 65 c (omega (arith, r.1)) in
    let d : nat_eq c 95 ≡ false = ne_eqb c 95 (λ e. omega (arith, r.1)) in
    rw (a, b, d, le-leb 48 c r.0, le-leb c 57 r.1) refl

class_letter : (c : ℕ) → is_letter c ≡ true → class_of c ≡ Letter
class_letter c h = rw h refl

-- the byte goes on a word
abbrev pub Continues : ℕ → Type 0
Continues b = (w : List ℕ) → in_word (class_of b) w b ≡ to (InWord (w ++ b ∷ [])) []

digit_continues : (c : ℕ) → IsInRange 48 57 c → Continues c
digit_continues c r = λ w. let e = class_digit c r in rw e refl

letter_continues : (c : ℕ) → is_letter c ≡ true → Continues c
letter_continues c h = λ w. let e = class_letter c h in rw e refl

digits_continue : (ds : List ℕ) → AllDigits 10 ds → AllByRecursion Continues ds
digits_continue [] h = tt
digits_continue (c ∷ cs) h = let p = tells_digits.parts c cs h in (digit_continues c p.0, digits_continue cs p.1)

-- ---- words

scan-word : (a w : List ℕ) → AllByRecursion Continues w → scan (InWord a) w ≡ to (InWord (a ++ w)) []
scan-word a [] h = ap (λ (x : List ℕ). to (InWord x) []) (sym (append-nil a))
scan-word a (b ∷ w) h =
    ap (λ (x : Move). after x.tokens (scan x.mode w)) (h.0 a)
    ∙ ap (λ (x : Move). after [] x) (scan-word (a ++ b ∷ []) w h.1)
    ∙ ap (λ (x : List ℕ). to (InWord x) []) (append_assoc a (b ∷ []) w)

abbrev pub IsWordText : List ℕ → Type 0
IsWordText [] = ⊥
IsWordText (b ∷ w) = (fresh b ≡ to (InWord (b ∷ [])) []) × AllByRecursion Continues w

word-scan : (w : List ℕ) → IsWordText w → scan Between w ≡ to (InWord w) []
word-scan [] h = absurd h
word-scan (b ∷ w) h = ap (λ (x : Move). after x.tokens (scan x.mode w)) h.0 ∙ ap (λ (x : Move). after [] x) (scan-word (b ∷ []) w h.1)

-- a name of the subset, as its bytes are read
pub record IsPlain (name : List ℕ) : Type 0 where
  pub word : IsWordText name
  pub token : word_token name ≡ Name name

pub plain-reads : (name rest : List ℕ) (x : List Token) → IsPlain name → ClosesWord rest x → Reads (name ++ rest) (Name name ∷ x)
plain-reads name rest x h c = record {
  is = scan-append Between name rest ∙ ap (λ (m : Move). after m.tokens (scan m.mode rest)) (word-scan name h.word)
      ∙ ap (λ (m : Move). after [] m) (c.is name) ∙ ap (λ (t : Token). to Between (t ∷ x)) h.token;
}

-- ---- numbers

folds : FoldsDigits (number_from 10)
folds = record {
  empty = λ n. refl;
  more = λ n c cs r. ap (λ (m : ℕ). number_from 10 m cs)
      (let e : nat_eq c 95 ≡ false = ne_eqb c 95 (λ e. omega (arith, r.1)) in let f : nat_le c 57 ≡ true = le-leb c 57 r.1 in rw (e, f) refl);
}

own : IsNumeralModel (AllDigits 10) (number_from 10 0)
own = numerals_by_fold (AllDigits 10) tells_digits (number_from 10) folds

pub numeral-decimal : (n : ℕ) → n < 10 ^ 64 → IsNumeral 10 (decimal n)
numeral-decimal n h = (decimal_is_IsNumeral_wide n h).0

pub number_in-decimal : (n : ℕ) → n < 10 ^ 64 → number_in 10 (decimal n) ≡ n
number_in-decimal n h = let d = decimal_is_IsNumeral_wide n h in own.same (decimal n) d.0.1 ∙ d.1

-- digits of a number that is a token
pub record IsSize (ds : List ℕ) : Type 0 where
  pub numeral : IsNumeral 10 ds
  pub small : number_in 10 ds < 2 ^ 32

pub size-decimal : (n : ℕ) → n < 2 ^ 32 → IsSize (decimal n)
size-decimal n h =
    let w : n < 10 ^ 64 = omega arith in
    record { numeral = numeral-decimal n w; small = rw (number_in-decimal n w) h }

scan-number : (a w : List ℕ) → AllDigits 10 w → scan (InNumber a) w ≡ to (InNumber (a ++ w)) []
scan-number a [] h = ap (λ (x : List ℕ). to (InNumber x) []) (sym (append-nil a))
scan-number a (b ∷ w) h =
    let p = tells_digits.parts b w h in
    ap (λ (c : Class). after (in_number c a b).tokens (scan (in_number c a b).mode w)) (class_digit b p.0)
    ∙ ap (λ (x : Move). after [] x) (scan-number (a ++ b ∷ []) w p.1)
    ∙ ap (λ (x : List ℕ). to (InNumber x) []) (append_assoc a (b ∷ []) w)

number-scan : (w : List ℕ) → IsNumeral 10 w → scan Between w ≡ to (InNumber w) []
number-scan [] h = absurd (omega (arith, h.0))
number-scan (b ∷ w) h =
    let p = tells_digits.parts b w h.1 in
    ap (λ (c : Class). after (fresh_by c b).tokens (scan (fresh_by c b).mode w)) (class_digit b p.0)
    ∙ ap (λ (x : Move). after [] x) (scan-number (b ∷ []) w p.1)

number_is : (ds : List ℕ) → IsSize ds → number_token ds ≡ Number ds
number_is ds h = let e : nat_lt (number_in 10 ds) (2 ^ 32) ≡ true = lt-ltb (number_in 10 ds) (2 ^ 32) h.small in rw e refl

sized_is : (ds : List ℕ) (radix : ℕ) (v : List ℕ) → IsSize ds → sized_token ds radix v ≡ Sized ds radix v
sized_is ds radix v h = let e : nat_lt (number_in 10 ds) (2 ^ 32) ≡ true = lt-ltb (number_in 10 ds) (2 ^ 32) h.small in rw e refl

pub number-reads : (ds rest : List ℕ) (x : List Token) → IsSize ds → ClosesNumber rest x → Reads (ds ++ rest) (Number ds ∷ x)
number-reads ds rest x h c = record {
  is = scan-append Between ds rest ∙ ap (λ (m : Move). after m.tokens (scan m.mode rest)) (number-scan ds h.numeral)
      ∙ ap (λ (m : Move). after [] m) (c.is ds) ∙ ap (λ (t : Token). to Between (t ∷ x)) (number_is ds h);
}

-- ---- literals

digit_is : (c : ℕ) → IsInRange 48 57 c → is_digit_of 10 c ≡ true
digit_is c r =
    let e : nat_lt (c - 48) 10 ≡ true = lt-ltb (c - 48) 10 (omega (arith, r.0, r.1)) in
    rw (le-leb 48 c r.0, le-leb c 57 r.1) e

goes : (c : ℕ) → IsInRange 48 57 c → goes_on 10 c ≡ true
goes c r = ap (λ (b : Bool). b || nat_eq c 95) (digit_is c r)

scan-digits : (n a w : List ℕ) → AllDigits 10 w → scan (InDigits n 10 a) w ≡ to (InDigits n 10 (a ++ w)) []
scan-digits n a [] h = ap (λ (x : List ℕ). to (InDigits n 10 x) []) (sym (append-nil a))
scan-digits n a (b ∷ w) h =
    let p = tells_digits.parts b w h in
    ap (λ (c : Bool). after (in_digits c n 10 a b).tokens (scan (in_digits c n 10 a b).mode w)) (goes b p.0)
    ∙ ap (λ (x : Move). after [] x) (scan-digits n (a ++ b ∷ []) w p.1)
    ∙ ap (λ (x : List ℕ). to (InDigits n 10 x) []) (append_assoc a (b ∷ []) w)

base-scan : (n w : List ℕ) → IsNumeral 10 w → scan (AtBase n 100 10) w ≡ to (InDigits n 10 w) []
base-scan n [] h = absurd (omega (arith, h.0))
base-scan n (b ∷ w) h =
    let p = tells_digits.parts b w h.1 in
    ap (λ (c : Bool). after (at_base c n 100 10 b).tokens (scan (at_base c n 100 10 b).mode w)) (digit_is b p.0)
    ∙ ap (λ (x : Move). after [] x) (scan-digits n (b ∷ []) w p.1)

digits-close : (n v rest : List ℕ) (x : List Token) → IsSize n → IsNumeral 10 v → ClosesDigits rest x → scan (AtBase n 100 10) (v ++ rest) ≡ to Between (Sized n 10 v ∷ x)
digits-close n v rest x s h c =
    scan-append (AtBase n 100 10) v rest ∙ ap (λ (m : Move). after m.tokens (scan m.mode rest)) (base-scan n v h)
    ∙ ap (λ (m : Move). after [] m) (c.is n v) ∙ ap (λ (t : Token). to Between (t ∷ x)) (sized_is n 10 v s)

pub literal-reads : (n v rest : List ℕ) (x : List Token) → IsSize n → IsNumeral 10 v → ClosesDigits rest x → Reads (n ++ (codes "'d" ++ (v ++ rest))) (Sized n 10 v ∷ x)
literal-reads n v rest x s h c = record {
  is = scan-append Between n (codes "'d" ++ (v ++ rest)) ∙ ap (λ (m : Move). after m.tokens (scan m.mode (codes "'d" ++ (v ++ rest)))) (number-scan n s.numeral)
      ∙ ap (λ (m : Move). after [] (after [] (after [] m))) (digits-close n v rest x s h c);
}

-- ---- the names of ports and of nets

regroup : (p q r : Bool) → (q || p || r) ≡ true → (p || (q || r)) ≡ true
regroup true q r h = refl
regroup false true r h = refl
regroup false false true h = refl
regroup false false false h = h

letter_is : (c : ℕ) → net.is_letter c ≡ true → is_letter c ≡ true
letter_is c h = regroup (nat_le 97 c && nat_le c 122) (nat_le 65 c && nat_le c 90) (nat_eq c 95) h

byte_continues : (c : ℕ) → (net.is_letter c || net.is_digit c) ≡ true → Continues c
byte_continues c h = elim (or_cases (net.is_letter c) (net.is_digit c) h) [
  | inl l ↦ letter_continues c (letter_is c l)
  | inr d ↦ (let p = and_parts (nat_le 48 c) (nat_le c 57) d in digit_continues c (leb-true 48 c p.0, leb-true c 57 p.1))
]

bytes_continue : (w : List ℕ) → list_all (λ c. net.is_letter c || net.is_digit c) w ≡ true → AllByRecursion Continues w
bytes_continue [] h = tt
bytes_continue (c ∷ w) h = let p = and_parts (net.is_letter c || net.is_digit c) (list_all (λ c. net.is_letter c || net.is_digit c) w) h in (byte_continues c p.0, bytes_continue w p.1)

name_word : (w : List ℕ) → net.begins_with_letter w ≡ true → list_all (λ c. net.is_letter c || net.is_digit c) w ≡ true → IsWordText w
name_word [] f h = absurd (cc)
name_word (c ∷ w) f h =
    let p = and_parts (net.is_letter c || net.is_digit c) (list_all (λ c. net.is_letter c || net.is_digit c) w) h in
    (ap (λ (k : Class). fresh_by k c) (class_letter c (letter_is c f)), bytes_continue w p.1)

none_of : (p : List ℕ → Bool) (ks : List (List ℕ)) → list_any p ks ≡ false → AllByRecursion (λ k. p k ≡ false) ks
none_of p [] h = tt
none_of p (k ∷ ks) h = let q = neither_parts (p k) (list_any p ks) h in (q.0, none_of p ks q.1)

not_reserved : (w : List ℕ) → AllByRecursion (λ k. bytes_eq w k ≡ false) keywords → reserved w ≡ None
not_reserved w a = rw (a.0, a.1.0, a.1.1.0, a.1.1.1.0, a.1.1.1.1.0, a.1.1.1.1.1.0, a.1.1.1.1.1.1.0, a.1.1.1.1.1.1.1.0, a.1.1.1.1.1.1.1.1.0, a.1.1.1.1.1.1.1.1.1.0, a.1.1.1.1.1.1.1.1.1.1.0, a.1.1.1.1.1.1.1.1.1.1.1.0, a.1.1.1.1.1.1.1.1.1.1.1.1.0) refl

word_is : (w : List ℕ) → reserved w ≡ None → length w ≤ 128 → word_token w ≡ Name w
word_is w r s = ap (λ (k : Option Keyword). word_by k w) r ∙ (let e : nat_le (length w) 128 ≡ true = le-leb (length w) 128 s in rw e refl)

pub name-plain : (w : List ℕ) → IsName w → IsPlain w
name-plain w h = record { word = name_word w h.first h.each; token = word_is w (not_reserved w (none_of (bytes_eq w) keywords h.free)) h.short }

pub all-append : (p : ℕ → Bool) (a b : List ℕ) → list_all p a ≡ true → list_all p b ≡ true → list_all p (a ++ b) ≡ true
all-append p [] b h k = k
all-append p (c ∷ a) b h k = let q = and_parts (p c) (list_all p a) h in and_both (p c) (list_all p (a ++ b)) q.0 (all-append p a b q.1 k)

pub digits-name : (ds : List ℕ) → AllDigits 10 ds → list_all (λ c. net.is_letter c || net.is_digit c) ds ≡ true
digits-name [] h = refl
digits-name (c ∷ cs) h =
    let p = tells_digits.parts c cs h in
    let d : net.is_digit c ≡ true = and_both (nat_le 48 c) (nat_le c 57) (le-leb 48 c p.0.0) (le-leb c 57 p.0.1) in
    and_both (net.is_letter c || net.is_digit c) (list_all (λ c. net.is_letter c || net.is_digit c) cs) (or_right (net.is_letter c) (net.is_digit c) d) (digits-name cs p.1)

-- the name of a net in a family
pub family-name : (family n : ℕ) → family < 2 ^ 64 → n < 2 ^ 64 → IsName (net_name family n)
unfolding net_name family_text
family-name family n f h =
    let a = digits-name (decimal family) (numeral-decimal family (omega (arith, f))).1 in
    let b = digits-name (decimal n) (numeral-decimal n (omega (arith, h))).1 in
    let la = length-decimal-le 20 family (omega arith) (omega arith) f in
    let lb = length-decimal-le 20 n (omega arith) (omega arith) h in
    let p : ℕ → Bool = λ c. net.is_letter c || net.is_digit c in
    record {
      first = refl;
      each = all-append p (codes "n" ++ decimal family ++ codes "_") (decimal n) (all-append p (codes "n" ++ decimal family) (codes "_") (all-append p (codes "n") (decimal family) refl a) refl) b;
      short = (let q : length (codes "n" ++ decimal family ++ codes "_" ++ decimal n) ≤ 128 = omega (arith, la, lb, length-append (decimal family ++ codes "_") (decimal n), length-append (decimal family) (codes "_")) in q);
      free = refl;
    }

pub clock-plain : IsPlain (codes "clk")
clock-plain = record { word = (refl, ((λ w. refl), ((λ w. refl), tt))); token = refl }

pub reset-plain : IsPlain (codes "rst")
reset-plain = record { word = (refl, ((λ w. refl), ((λ w. refl), tt))); token = refl }
