-- The text of tokens has these tokens.
use Rattle.std.proofs.Common.{◌≡◌, ℕ, ◌+◌, Bool, true, false, not, ◌&&◌, List, [], ◌∷◌, ◌++◌, length, map, refl, sym, ap, subst, ◌∙◌, append_assoc, append-nil, inl, inr, ◌⊎◌}
use Rattle.std.specs.Prelude.{nat_le, ◌==◌}
use Rattle.std.specs.List.{AllByRecursion}
use Rattle.std.proofs.lemmas.Bool.{and_parts, cases_Bool, eqb-true, true≢false}
use Rattle.gl_query_tokens.specs.declared.token.Plain.TheVariants as plain
use Rattle.gl_query_tokens.specs.declared.token.Token.{Token}
use Rattle.gl_query_tokens.specs.declared.token.Token.TheVariants as token
use Rattle.gl_query_tokens.specs.declared.token.Lexeme.{Lexeme}
use Rattle.gl_query_tokens.specs.declared.lexing.Class.{Class}
use Rattle.gl_query_tokens.specs.declared.lexing.Class.TheVariants.{Letter, Blank, Quote, Half, Alone}
use Rattle.gl_query_tokens.specs.declared.lexing.Follow.{Follow}
use Rattle.gl_query_tokens.specs.declared.lexing.Follow.TheVariants.{Fresh}
use Rattle.gl_query_tokens.specs.Tokens.{Mode, Between, InWord, InText, AfterHalf, Move, to, begin, in_word, in_text, after_half, move, last_of, scan, tokens_of, class_of, follow_of, sign_token, text_token}
use Rattle.gl_query_tokens.specs.Words.{word_token}
use Rattle.gl_query_reader.specs.Grammar.{bare_tokens}
use Rattle.gl_query_printer.specs.declared.text.Behind.{Behind}
use Rattle.gl_query_printer.specs.declared.text.Behind.TheVariants.{Opening, Named, Operand, Sign, Other}
use Rattle.gl_query_printer.specs.Spaced.{token_text, plain_text, letters_text, place_behind, is_closing, is_number, is_opening, needs_space, gap, spaced, text_of}
use Rattle.gl_query_tokens.proofs.Sound.{IsLetters, are_inside, are_letters, is_inside, is_letter, is_word}
use Rattle.gl_query_printer.proofs.Places.{placeless}
use Rattle.gl_bits.proofs.Bools.{not_true}

-- lexemes without where they begin
abbrev bare : List Lexeme → List Token
bare ls = map placeless (bare_tokens ls)

bare-append : (xs ys : List Lexeme) → bare (xs ++ ys) ≡ bare xs ++ bare ys
bare-append [] ys = refl
bare-append (x ∷ xs) ys = ap (λ (ts : List Token). placeless x.token ∷ ts) (bare-append xs ys)

-- the tokens from here to the end of the text, without their places
abbrev pub read_on : Mode → ℕ → List ℕ → List Token
read_on m at [] = bare (last_of m)
read_on m at (b ∷ bs) = bare (move m at b).tokens ++ read_on (move m at b).mode (at + 1) bs

read_on_is : (m : Mode) (at : ℕ) (bs : List ℕ) → bare ((scan m at bs).tokens ++ last_of (scan m at bs).mode) ≡ read_on m at bs
read_on_is m at [] = refl
read_on_is m at (b ∷ bs) =
    let x = move m at b in
    let y = scan x.mode (at + 1) bs in
    ap bare (append_assoc x.tokens y.tokens (last_of y.mode)) ∙ bare-append x.tokens (y.tokens ++ last_of y.mode) ∙ ap (λ (ts : List Token). bare x.tokens ++ ts) (read_on_is x.mode (at + 1) bs)

-- ---- where a word and a sign end

-- a byte that goes on with no word and no sign
pub record IsEnd (b : ℕ) : Type 0 where
  pub word : is_letter (class_of b) ≡ false
  pub less : follow_of 60 b ≡ Fresh
  pub greater : follow_of 62 b ≡ Fresh
  pub dash : follow_of 45 b ≡ Fresh

abbrev pub Ends : List ℕ → Type 0
Ends [] = Unit {0}
Ends (b ∷ bs) = IsEnd b

end_at : (b : ℕ) → is_letter (class_of b) ≡ false → follow_of 60 b ≡ Fresh → follow_of 62 b ≡ Fresh → follow_of 45 b ≡ Fresh → IsEnd b
end_at b w l g d = record { word = w; less = l; greater = g; dash = d }

space_ends : IsEnd 32
unfolding class_of follow_of
space_ends = end_at 32 refl refl refl refl

open_ends : IsEnd 40
unfolding class_of follow_of
open_ends = end_at 40 refl refl refl refl

close_ends : IsEnd 41
unfolding class_of follow_of
close_ends = end_at 41 refl refl refl refl

comma_ends : IsEnd 44
unfolding class_of follow_of
comma_ends = end_at 44 refl refl refl refl

square_ends : IsEnd 93
unfolding class_of follow_of
square_ends = end_at 93 refl refl refl refl

-- these bytes do not begin with a dash, which would make a comment of one before them
abbrev pub Apart : List ℕ → Type 0
Apart [] = Unit {0}
Apart (b ∷ bs) = follow_of 45 b ≡ Fresh

pub ends_apart : (bs : List ℕ) → Ends bs → Apart bs
ends_apart [] e = tt
ends_apart (b ∷ bs) e = e.dash

letter_apart : (b : ℕ) → is_letter (class_of b) ≡ true → follow_of 45 b ≡ Fresh
unfolding class_of follow_of
letter_apart b h = elim (cases_Bool (b == 45)) [
  | inl dash ↦ absurd (true≢false (sym h ∙ ap (λ (c : ℕ). is_letter (class_of c)) (eqb-true b 45 dash)))
  | inr other ↦ rw other refl
]

pub word_apart : (w more : List ℕ) → is_word w ≡ true → Apart (w ++ more)
word_apart [] more h = absurd (true≢false (sym h))
word_apart (b ∷ w) more h = letter_apart b (and_parts (is_letter (class_of b)) (are_letters w) h).0

-- what stands behind a token does not go on with it
abbrev pub EndsIn : Behind → List ℕ → Type 0
EndsIn Opening bs = Unit {0}
EndsIn Named bs = Ends bs
EndsIn Operand bs = Ends bs
EndsIn Sign bs = Apart bs
EndsIn Other bs = Ends bs

-- these bytes, with such ones behind them, are read as this token
pub record ReadAs (at : ℕ) (w bs : List ℕ) (t : Token) : Type 0 where
  pub behind : ℕ
  pub is : read_on Between at (w ++ bs) ≡ t ∷ read_on Between behind bs

-- a token's text is read as it, and that of a number does not begin with a dash
pub record Readable (t : Token) : Type 0 where
  pub reads : (p : Behind) (at : ℕ) (bs : List ℕ) → EndsIn (place_behind p t) bs → ReadAs at (token_text t) bs t
  pub apart : is_number t ≡ true → (more : List ℕ) → Apart (token_text t ++ more)

pub no_number : {t : Token} → is_number t ≡ false → ((p : Behind) (at : ℕ) (bs : List ℕ) → EndsIn (place_behind p t) bs → ReadAs at (token_text t) bs t) → Readable t
no_number n r = record { reads = r; apart = λ h. absurd (true≢false (sym h ∙ n)) }

-- ---- words

a_letter : (c : Class) → is_letter c ≡ true → c ≡ Letter
a_letter Letter h = refl
a_letter Blank h = absurd (true≢false (sym h))
a_letter Quote h = absurd (true≢false (sym h))
a_letter Half h = absurd (true≢false (sym h))
a_letter Alone h = absurd (true≢false (sym h))

-- the rest of a word
record GoesOn (from : ℕ) (front w bs : List ℕ) (at : ℕ) : Type 0 where
  behind : ℕ
  is : read_on (InWord from front) at (w ++ bs) ≡ read_on (InWord from (front ++ w)) behind bs

goes_on : (from : ℕ) (front w bs : List ℕ) (at : ℕ) → are_letters w ≡ true → GoesOn from front w bs at
goes_on from front [] bs at h = record { behind = at; is = ap (λ (x : List ℕ). read_on (InWord from x) at bs) (sym (append-nil front)) }
goes_on from front (b ∷ w) bs at h =
    let p = and_parts (is_letter (class_of b)) (are_letters w) h in
    let r = goes_on from (front ++ b ∷ []) w bs (at + 1) p.1 in
    record {
      behind = r.behind;
      is = ap (λ (c : Class). bare (in_word c from front at b).tokens ++ read_on (in_word c from front at b).mode (at + 1) (w ++ bs)) (a_letter (class_of b) p.0)
          ∙ r.is ∙ ap (λ (x : List ℕ). read_on (InWord from x) r.behind bs) (append_assoc front (b ∷ []) w);
    }

ends_by : (c : Class) (from : ℕ) (w : List ℕ) (at b : ℕ) (rest : Mode → List Token) → is_letter c ≡ false
    → bare (in_word c from w at b).tokens ++ rest (in_word c from w at b).mode ≡ placeless (word_token w from) ∷ (bare (begin c at b).tokens ++ rest (begin c at b).mode)
ends_by Letter from w at b rest h = absurd (true≢false h)
ends_by Blank from w at b rest h = refl
ends_by Quote from w at b rest h = refl
ends_by Half from w at b rest h = refl
ends_by Alone from w at b rest h = refl

word_ends : (from : ℕ) (w bs : List ℕ) (at : ℕ) → Ends bs → read_on (InWord from w) at bs ≡ placeless (word_token w from) ∷ read_on Between at bs
word_ends from w [] at e = refl
word_ends from w (b ∷ bs) at e = ends_by (class_of b) from w at b (λ m. read_on m (at + 1) bs) e.word

pub read_word : (w : List ℕ) (t : Token) → is_word w ≡ true → ((at : ℕ) → placeless (word_token w at) ≡ t) → (at : ℕ) (bs : List ℕ) → Ends bs → ReadAs at w bs t
read_word [] t h k at bs e = absurd (true≢false (sym h))
read_word (b ∷ w) t h k at bs e =
    let p = and_parts (is_letter (class_of b)) (are_letters w) h in
    let r = goes_on at (b ∷ []) w bs (at + 1) p.1 in
    record {
      behind = r.behind;
      is = ap (λ (c : Class). bare (begin c at b).tokens ++ read_on (begin c at b).mode (at + 1) (w ++ bs)) (a_letter (class_of b) p.0)
          ∙ r.is ∙ word_ends at (b ∷ w) bs r.behind e ∙ ap (λ (x : Token). x ∷ read_on Between r.behind bs) (k at);
    }

-- ---- signs that may go on

pub half_ends : (from a : ℕ) (bs : List ℕ) (at : ℕ) → ((b : ℕ) → IsEnd b → follow_of a b ≡ Fresh) → Ends bs → read_on (AfterHalf from a) at bs ≡ placeless (sign_token a from) ∷ read_on Between at bs
half_ends from a [] at f e = refl
half_ends from a (b ∷ bs) at f e = ap (λ (x : Follow). bare (after_half x from a at b).tokens ++ read_on (after_half x from a at b).mode (at + 1) bs) (f b e)

pub dash_ends : (from : ℕ) (bs : List ℕ) (at : ℕ) → Apart bs → read_on (AfterHalf from 45) at bs ≡ placeless (sign_token 45 from) ∷ read_on Between at bs
dash_ends from [] at e = refl
dash_ends from (b ∷ bs) at e = ap (λ (x : Follow). bare (after_half x from 45 at b).tokens ++ read_on (after_half x from 45 at b).mode (at + 1) bs) e

-- ---- text literals

record Quoted (from : ℕ) (front w bs : List ℕ) (at : ℕ) : Type 0 where
  behind : ℕ
  is : read_on (InText from front) at (w ++ 39 ∷ bs) ≡ placeless (text_token (front ++ w) from) ∷ read_on Between behind bs

text_goes : (from : ℕ) (front : List ℕ) (b : ℕ) → is_inside b ≡ true → in_text from front b ≡ to (InText from (front ++ b ∷ [])) []
text_goes from front b h =
    let p = and_parts (not (b == 39)) (nat_le 32 b && nat_le b 126) h in
    rw (not_true (b == 39) p.0, p.1) refl

quoted : (from : ℕ) (front w bs : List ℕ) (at : ℕ) → are_inside w ≡ true → Quoted from front w bs at
quoted from front [] bs at h = record { behind = at + 1; is = ap (λ (x : List ℕ). placeless (text_token x from) ∷ read_on Between (at + 1) bs) (sym (append-nil front)) }
quoted from front (b ∷ w) bs at h =
    let p = and_parts (is_inside b) (are_inside w) h in
    let r = quoted from (front ++ b ∷ []) w bs (at + 1) p.1 in
    record {
      behind = r.behind;
      is = ap (λ (x : Move). bare x.tokens ++ read_on x.mode (at + 1) (w ++ 39 ∷ bs)) (text_goes from front b p.0)
          ∙ r.is ∙ ap (λ (x : List ℕ). placeless (text_token x from) ∷ read_on Between r.behind bs) (append_assoc front (b ∷ []) w);
    }

quote_first : (at : ℕ) (bs : List ℕ) → read_on Between at (39 ∷ bs) ≡ read_on (InText at []) (at + 1) bs
unfolding class_of
quote_first at bs = refl

letters_token : (text : List ℕ) (at : ℕ) → nat_le (length text) 8 ≡ true → placeless (text_token text at) ≡ token.Letters text 0
unfolding text_token
letters_token text at h = rw h refl

pub letters_readable : (text : List ℕ) → IsLetters text → Readable (token.Letters text 0)
unfolding token_text letters_text
letters_readable text h = no_number refl (λ p at bs e.
    let r = quoted at [] text bs (at + 1) h.inside in
    record {
      behind = r.behind;
      is = ap (read_on Between at) (ap (λ (x : List ℕ). 39 ∷ x) (append_assoc text (39 ∷ []) bs)) ∙ quote_first at (text ++ 39 ∷ bs) ∙ r.is
          ∙ ap (λ (x : Token). x ∷ read_on Between r.behind bs) (letters_token text at h.short);
    })

-- ---- tokens with spaces between them

record Skips (gone : Bool) (at : ℕ) (bs : List ℕ) : Type 0 where
  behind : ℕ
  is : read_on Between at (gap gone ++ bs) ≡ read_on Between behind bs

skips : (b : Bool) (at : ℕ) (bs : List ℕ) → Skips b at bs
unfolding class_of
skips true at bs = record { behind = at + 1; is = refl }
skips false at bs = record { behind = at; is = refl }

-- a sign that stands without a space before it ends what stands before
record Begins (text : List ℕ) : Type 0 where
  byte : ℕ
  left : List ℕ
  is : text ≡ byte ∷ left
  ends : IsEnd byte

closing_begins : (u : Token) → is_closing u ≡ true → Begins (token_text u)
unfolding token_text plain_text is_closing
closing_begins (token.Plain plain.Close) h = record { byte = 41; left = []; is = refl; ends = close_ends }
closing_begins (token.Plain plain.RightSquare) h = record { byte = 93; left = []; is = refl; ends = square_ends }
closing_begins (token.Plain plain.Comma) h = record { byte = 44; left = []; is = refl; ends = comma_ends }
closing_begins u h = absurd (true≢false (sym h))

opening_begins : (u : Token) → is_opening u ≡ true → Begins (token_text u)
unfolding token_text plain_text is_opening
opening_begins (token.Open at) h = record { byte = 40; left = []; is = refl; ends = open_ends }
opening_begins u h = absurd (true≢false (sym h))

begun : (text more : List ℕ) → Begins text → Ends (text ++ more)
begun text more b = subst (λ (x : List ℕ). Ends (x ++ more)) (sym b.is) b.ends

-- a space, or a sign that needs none
ends_by_gap : (needed : Bool) (text more : List ℕ) → (needed ≡ false → Begins text) → Ends (gap needed ++ text ++ more)
ends_by_gap true text more f = space_ends
ends_by_gap false text more f = begun text more (f refl)

not_needed : (a : Bool) → not a ≡ false → a ≡ true
not_needed true h = refl
not_needed false h = absurd (true≢false h)

either_needed : (a b : Bool) → (not a && not b) ≡ false → (a ≡ true) ⊎ (b ≡ true)
either_needed true b h = inl refl
either_needed false true h = inr refl
either_needed false false h = absurd (true≢false h)

behind_name : (u : Token) → needs_space Named u ≡ false → Begins (token_text u)
behind_name u h = elim (either_needed (is_opening u) (is_closing u) h) [ inl o ↦ opening_begins u o | inr c ↦ closing_begins u c ]

behind_other : (u : Token) → not (is_closing u) ≡ false → Begins (token_text u)
behind_other u h = closing_begins u (not_needed (is_closing u) h)

-- a space, or a number behind its sign
apart_by_gap : (number : Bool) (text more : List ℕ) → (number ≡ true → Apart (text ++ more)) → Apart (gap (not number) ++ text ++ more)
apart_by_gap true text more f = f refl
apart_by_gap false text more f = space_ends.dash

rest_ends : (p : Behind) (ts : List Token) → AllByRecursion Readable ts → EndsIn p (spaced p ts)
rest_ends Opening ts h = tt
rest_ends Named [] h = tt
rest_ends Named (u ∷ ts) h = ends_by_gap (needs_space Named u) (token_text u) (spaced (place_behind Named u) ts) (behind_name u)
rest_ends Operand [] h = tt
rest_ends Operand (u ∷ ts) h = ends_by_gap (needs_space Operand u) (token_text u) (spaced (place_behind Operand u) ts) (behind_other u)
rest_ends Sign [] h = tt
rest_ends Sign (u ∷ ts) h = apart_by_gap (is_number u) (token_text u) (spaced (place_behind Sign u) ts) (λ n. h.0.apart n (spaced (place_behind Sign u) ts))
rest_ends Other [] h = tt
rest_ends Other (u ∷ ts) h = ends_by_gap (needs_space Other u) (token_text u) (spaced (place_behind Other u) ts) (behind_other u)

spaced_read : (p : Behind) (ts : List Token) (at : ℕ) → AllByRecursion Readable ts → read_on Between at (spaced p ts) ≡ ts
spaced_read p [] at h = refl
spaced_read p (t ∷ ts) at h =
    let q = place_behind p t in
    let s = skips (needs_space p t) at (token_text t ++ spaced q ts) in
    let r = h.0.reads p s.behind (spaced q ts) (rest_ends q ts h.1) in
    ap (read_on Between at) (append_assoc (gap (needs_space p t)) (token_text t) (spaced q ts)) ∙ s.is ∙ r.is ∙ ap (λ (x : List Token). t ∷ x) (spaced_read q ts r.behind h.1)

-- the text of tokens that can be read has them
pub text_has : (ts : List Token) → AllByRecursion Readable ts → map placeless (bare_tokens (tokens_of (text_of ts))) ≡ ts
unfolding tokens_of text_of
text_has ts h = read_on_is Between 0 (spaced Opening ts) ∙ spaced_read Opening ts 0 h
