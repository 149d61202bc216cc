-- The names in a text of a module: no blank stands in one, and none begins with a dollar sign.
use Rattle.std.proofs.Common.{◌≡◌, ℕ, Bool, true, false, List, [], ◌∷◌, ◌++◌, length, Option, Some, None, refl, ap, subst, eqb-true}
use Rattle.std.specs.Prelude.{◌&&◌, nat_eq, nat_le, if◌then◌else◌}
use Rattle.std.specs.List.{AllByRecursion, list_any}
use Rattle.gl_bits.proofs.AllLists.{all_append}
use Rattle.gl_bits.proofs.Bools.{else_false, neither}
use Rattle.gl_schema.specs.SchemaText.{is_blank}
use Rattle.gl_verilog.specs.Tokens.{Keyword, Sign, OpenParen, CloseParen, OpenBracket, CloseBracket, OpenBrace, CloseBrace, Semicolon, Comma, Colon, Question, At, Equals, Tilde, Exclamation, Star, Plus, Minus, Less, Greater, Ampersand, Caret, Bar, LessEquals, GreaterEquals, EqualsEquals, ExclamationEquals, AmpersandAmpersand, BarBar, Token, Name, Number, Sized, Mark, Never, Class, Letter, Digit, Quote, Blank, LineEnd, Opens, Alone, Follow, IsPair, IsLine, IsBlock, IsNew, Mode, Between, InWord, InNumber, AtQuote, AtBase, InDigits, Half, InLine, InBlock, AtStar, Move, after, after_half, at_base, at_quote, at_star, class_of, follow_of, fresh, fresh_by, goes_on, in_block, in_digits, in_line, in_number, in_word, is_digit_of, last_of, move, number_token, radix_of, reserved, scan, sign_token, sized_token, tokens_of, word_by, word_token}
use Rattle.gl_vcd.specs.RoundTrip.{is_named}

-- ---- bytes

-- a byte that may stand in a name
abbrev IsPlain : ℕ → Type 0
IsPlain b = (is_blank b ≡ false) × (nat_eq b 36 ≡ false)

not_at : (b k : ℕ) (class : Class) → class_of b ≡ class → (class_of k ≡ class → ⊥) → nat_eq b k ≡ false
not_at b k class is other = else_false (nat_eq b k) (λ h. other (subst (λ (x : ℕ). class_of x ≡ class) (eqb-true b k h) is))

blank_none : (b : ℕ) → nat_eq b 32 ≡ false → nat_eq b 9 ≡ false → nat_eq b 13 ≡ false → nat_eq b 10 ≡ false → is_blank b ≡ false
blank_none b w x y z = rw (w, x, y, z) refl

letter_plain : (b : ℕ) → class_of b ≡ Letter → IsPlain b
letter_plain b h = (
  blank_none b (not_at b 32 Letter h (λ e. absurd cc)) (not_at b 9 Letter h (λ e. absurd cc)) (not_at b 13 Letter h (λ e. absurd cc)) (not_at b 10 Letter h (λ e. absurd cc)),
  not_at b 36 Letter h (λ e. absurd cc),
)

digit_plain : (b : ℕ) → class_of b ≡ Digit → IsPlain b
digit_plain b h = (
  blank_none b (not_at b 32 Digit h (λ e. absurd cc)) (not_at b 9 Digit h (λ e. absurd cc)) (not_at b 13 Digit h (λ e. absurd cc)) (not_at b 10 Digit h (λ e. absurd cc)),
  not_at b 36 Digit h (λ e. absurd cc),
)

-- ---- words

abbrev IsWordText : List ℕ → Type 0
IsWordText [] = ⊥
IsWordText (b ∷ bs) = AllByRecursion IsPlain (b ∷ bs)

word_grows : (w : List ℕ) (b : ℕ) → IsWordText w → IsPlain b → IsWordText (w ++ b ∷ [])
word_grows [] b h k = absurd h
word_grows (x ∷ w) b h k = (h.0, all_append IsPlain w (b ∷ []) h.1 (k, tt))

no_blank : (w : List ℕ) → AllByRecursion IsPlain w → list_any is_blank w ≡ false
no_blank [] h = refl
no_blank (b ∷ w) h = neither (is_blank b) (list_any is_blank w) h.0.0 (no_blank w h.1)

word_named : (w : List ℕ) → IsWordText w → is_named w ≡ true
word_named [] h = absurd h
word_named (b ∷ w) h = rw (no_blank (b ∷ w) h, h.0.1) refl

-- ---- tokens

-- a token that is a name is one of a dump
abbrev pub IsFine : Token → Type 0
IsFine (Name w) = is_named w ≡ true
IsFine _ = Unit {0}

abbrev AreFine : List Token → Type 0
AreFine ts = AllByRecursion IsFine ts

either : (b : Bool) (x y : Token) → IsFine x → IsFine y → IsFine (if b then x else y)
either true x y h k = h
either false x y h k = k

by_word : (o : Option Keyword) (w : List ℕ) → IsWordText w → IsFine (word_by o w)
by_word (Some word) w h = tt
by_word None w h = either (nat_le (length w) 128) (Name w) Never (word_named w h) tt

a_word : (w : List ℕ) → IsWordText w → IsFine (word_token w)
a_word w h = by_word (reserved w) w h

a_number : (n : List ℕ) → IsFine (number_token n)
a_number n = either _ (Number n) Never tt tt

a_sized : (n : List ℕ) (radix : ℕ) (ds : List ℕ) → IsFine (sized_token n radix ds)
a_sized n radix ds = either _ (Sized n radix ds) Never tt tt

record FineOne (token : Token) : Type 0 where
  is : IsFine token

at : (b : Bool) (sign : Sign) (y : Token) → FineOne y → FineOne (if b then Mark sign else y)
at b sign y k = record { is = either b (Mark sign) y tt k.is }

sign_one : (b : ℕ) → FineOne (sign_token b)
sign_one b =
    at (nat_eq b 40) OpenParen _ (at (nat_eq b 41) CloseParen _ (at (nat_eq b 91) OpenBracket _ (
    at (nat_eq b 93) CloseBracket _ (at (nat_eq b 123) OpenBrace _ (at (nat_eq b 125) CloseBrace _ (
    at (nat_eq b 59) Semicolon _ (at (nat_eq b 44) Comma _ (at (nat_eq b 58) Colon _ (
    at (nat_eq b 63) Question _ (at (nat_eq b 64) At _ (at (nat_eq b 61) Equals _ (
    at (nat_eq b 126) Tilde _ (at (nat_eq b 33) Exclamation _ (at (nat_eq b 42) Star _ (
    at (nat_eq b 43) Plus _ (at (nat_eq b 45) Minus _ (at (nat_eq b 60) Less _ (
    at (nat_eq b 62) Greater _ (at (nat_eq b 38) Ampersand _ (at (nat_eq b 94) Caret _ (
    at (nat_eq b 124) Bar _ (
    record { is = tt }))))))))))))))))))))))

a_sign : (b : ℕ) → IsFine (sign_token b)
a_sign b = (sign_one b).is

-- ---- byte by byte

-- the bytes so far may become a name
abbrev IsFair : Mode → Type 0
IsFair (InWord w) = IsWordText w
IsFair (AtBase n base radix) = IsPlain base
IsFair _ = Unit {0}

abbrev IsFairMove : Move → Type 0
IsFairMove x = IsFair x.mode × AreFine x.tokens

behind : (ts : List Token) (x : Move) → AreFine ts → IsFairMove x → IsFairMove (after ts x)
behind ts x h k = (k.0, all_append IsFine ts x.tokens h k.1)

fresh_fair : (c : Class) (b : ℕ) → class_of b ≡ c → IsFairMove (fresh_by c b)
fresh_fair Letter b e = ((letter_plain b e, tt), tt)
fresh_fair Digit b e = (tt, tt)
fresh_fair Quote b e = (tt, (tt, tt))
fresh_fair Blank b e = (tt, tt)
fresh_fair LineEnd b e = (tt, tt)
fresh_fair Opens b e = (tt, tt)
fresh_fair Alone b e = (tt, (a_sign b, tt))

word_fair : (c : Class) (w : List ℕ) (b : ℕ) → IsWordText w → class_of b ≡ c → IsFairMove (in_word c w b)
word_fair Letter w b h e = (word_grows w b h (letter_plain b e), tt)
word_fair Digit w b h e = (word_grows w b h (digit_plain b e), tt)
word_fair Quote w b h e = behind (word_token w ∷ []) (fresh_by Quote b) (a_word w h, tt) (fresh_fair Quote b e)
word_fair Blank w b h e = behind (word_token w ∷ []) (fresh_by Blank b) (a_word w h, tt) (fresh_fair Blank b e)
word_fair LineEnd w b h e = behind (word_token w ∷ []) (fresh_by LineEnd b) (a_word w h, tt) (fresh_fair LineEnd b e)
word_fair Opens w b h e = behind (word_token w ∷ []) (fresh_by Opens b) (a_word w h, tt) (fresh_fair Opens b e)
word_fair Alone w b h e = behind (word_token w ∷ []) (fresh_by Alone b) (a_word w h, tt) (fresh_fair Alone b e)

number_fair : (c : Class) (n : List ℕ) (b : ℕ) → class_of b ≡ c → IsFairMove (in_number c n b)
number_fair Letter n b e = behind (number_token n ∷ []) (fresh_by Letter b) (a_number n, tt) (fresh_fair Letter b e)
number_fair Digit n b e = (tt, tt)
number_fair Quote n b e = (tt, tt)
number_fair Blank n b e = behind (number_token n ∷ []) (fresh_by Blank b) (a_number n, tt) (fresh_fair Blank b e)
number_fair LineEnd n b e = behind (number_token n ∷ []) (fresh_by LineEnd b) (a_number n, tt) (fresh_fair LineEnd b e)
number_fair Opens n b e = behind (number_token n ∷ []) (fresh_by Opens b) (a_number n, tt) (fresh_fair Opens b e)
number_fair Alone n b e = behind (number_token n ∷ []) (fresh_by Alone b) (a_number n, tt) (fresh_fair Alone b e)

-- a base letter is none of these
no_base : (b k : ℕ) → (radix_of k ≡ None) → (radix : ℕ) → radix_of b ≡ Some radix → nat_eq b k ≡ false
no_base b k none radix e = else_false (nat_eq b k) (λ h. let same : radix_of b ≡ radix_of k = ap radix_of (eqb-true b k h) in absurd cc)

base_plain : (b radix : ℕ) → radix_of b ≡ Some radix → IsPlain b
base_plain b radix e = (blank_none b (no_base b 32 refl radix e) (no_base b 9 refl radix e) (no_base b 13 refl radix e) (no_base b 10 refl radix e), no_base b 36 refl radix e)

quote_fair : (o : Option ℕ) (n : List ℕ) (b : ℕ) → radix_of b ≡ o → IsFairMove (at_quote o n b)
quote_fair (Some radix) n b e = (base_plain b radix e, tt)
quote_fair None n b e = behind (number_token n ∷ Never ∷ []) (fresh b) (a_number n, (tt, tt)) (fresh_fair (class_of b) b refl)

base_fair : (t : Bool) (n : List ℕ) (base radix b : ℕ) → IsPlain base → IsFairMove (at_base t n base radix b)
base_fair true n base radix b h = (tt, tt)
base_fair false n base radix b h = behind (number_token n ∷ Never ∷ []) (in_word (class_of b) (base ∷ []) b) (a_number n, (tt, tt)) (word_fair (class_of b) (base ∷ []) b (h, tt) refl)

digits_fair : (t : Bool) (n : List ℕ) (radix : ℕ) (ds : List ℕ) (b : ℕ) → IsFairMove (in_digits t n radix ds b)
digits_fair true n radix ds b = (tt, tt)
digits_fair false n radix ds b = behind (sized_token n radix ds ∷ []) (fresh b) (a_sized n radix ds, tt) (fresh_fair (class_of b) b refl)

-- what two bytes make is no name
abbrev IsNoName : Follow → Type 0
IsNoName (IsPair token) = IsFine token
IsNoName _ = Unit {0}

record NoNameOne (f : Follow) : Type 0 where
  is : IsNoName f

no_name : (b : Bool) (x y : Follow) → IsNoName x → NoNameOne y → NoNameOne (if b then x else y)
no_name true x y h k = record { is = h }
no_name false x y h k = k

pair : (b : Bool) (sign : Sign) (y : Follow) → NoNameOne y → NoNameOne (if b then IsPair (Mark sign) else y)
pair b sign y k = no_name b (IsPair (Mark sign)) y tt k

pairs_one : (b c : ℕ) → NoNameOne (follow_of b c)
pairs_one b c =
    pair (nat_eq b 60 && nat_eq c 61) LessEquals _ (
    pair (nat_eq b 62 && nat_eq c 61) GreaterEquals _ (
    pair (nat_eq b 61 && nat_eq c 61) EqualsEquals _ (
    pair (nat_eq b 33 && nat_eq c 61) ExclamationEquals _ (
    pair (nat_eq b 38 && nat_eq c 38) AmpersandAmpersand _ (
    pair (nat_eq b 124 && nat_eq c 124) BarBar _ (
    no_name (nat_eq b 94 && nat_eq c 126) (IsPair Never) _ tt (
    no_name (nat_eq b 47 && nat_eq c 47) IsLine _ tt (
    no_name (nat_eq b 47 && nat_eq c 42) IsBlock _ tt (
    record { is = tt })))))))))

pairs : (b c : ℕ) → IsNoName (follow_of b c)
pairs b c = (pairs_one b c).is

half_fair : (f : Follow) (b c : ℕ) → IsNoName f → IsFairMove (after_half f b c)
half_fair (IsPair token) b c h = (tt, (h, tt))
half_fair IsLine b c h = (tt, tt)
half_fair IsBlock b c h = (tt, tt)
half_fair IsNew b c h = behind (sign_token b ∷ []) (fresh c) (a_sign b, tt) (fresh_fair (class_of c) c refl)

line_fair : (t : Bool) → IsFair (in_line t)
line_fair true = tt
line_fair false = tt

block_fair : (t : Bool) → IsFair (in_block t)
block_fair true = tt
block_fair false = tt

star_fair : (t s : Bool) → IsFair (at_star t s)
star_fair true s = tt
star_fair false s = block_fair s

move_fair : (m : Mode) (b : ℕ) → IsFair m → IsFairMove (move m b)
move_fair Between b h = fresh_fair (class_of b) b refl
move_fair (InWord w) b h = word_fair (class_of b) w b h refl
move_fair (InNumber n) b h = number_fair (class_of b) n b refl
move_fair (AtQuote n) b h = quote_fair (radix_of b) n b refl
move_fair (AtBase n base radix) b h = base_fair (is_digit_of radix b) n base radix b h
move_fair (InDigits n radix ds) b h = digits_fair (goes_on radix b) n radix ds b
move_fair (Half b) c h = half_fair (follow_of b c) b c (pairs b c)
move_fair InLine b h = (line_fair (nat_eq b 10), tt)
move_fair InBlock b h = (block_fair (nat_eq b 42), tt)
move_fair AtStar b h = (star_fair (nat_eq b 47) (nat_eq b 42), tt)

scan_fair : (m : Mode) (text : List ℕ) → IsFair m → IsFairMove (scan m text)
scan_fair m [] h = (h, tt)
scan_fair m (b ∷ text) h =
    let first = move_fair m b h in
    behind (move m b).tokens (scan (move m b).mode text) first.1 (scan_fair (move m b).mode text first.0)

last_fair : (m : Mode) → IsFair m → AreFine (last_of m)
last_fair Between h = tt
last_fair (InWord w) h = (a_word w h, tt)
last_fair (InNumber n) h = (a_number n, tt)
last_fair (AtQuote n) h = (a_number n, (tt, tt))
last_fair (AtBase n base radix) h = (a_number n, (tt, (a_word (base ∷ []) (h, tt), tt)))
last_fair (InDigits n radix ds) h = (a_sized n radix ds, tt)
last_fair (Half b) h = (a_sign b, tt)
last_fair InLine h = tt
last_fair InBlock h = (tt, tt)
last_fair AtStar h = (tt, tt)

-- each name in a text is a token of a dump
pub all_fine : (text : List ℕ) → AllByRecursion IsFine (tokens_of text)
unfolding tokens_of
all_fine text =
    let all = scan_fair Between text tt in
    all_append IsFine (scan Between text).tokens (last_of (scan Between text).mode) all.1 (last_fair (scan Between text).mode all.0)
