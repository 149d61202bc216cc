-- What the tokens of a text have: names are names, numbers are small, literals are short.
use Rattle.std.proofs.Common.{◌≡◌, ℕ, ◌+◌, ◌-◌, ◌*◌, ◌^◌, Bool, true, false, ◌&&◌, List, [], ◌∷◌, ◌++◌, length, Option, Some, None, refl, sym, subst}
use Rattle.std.specs.Prelude.{codes, not, nat_le, nat_lt, ◌==◌, unwrap_or, if◌then◌else◌}
use Rattle.std.specs.List.{AllByRecursion}
use Rattle.std.proofs.lemmas.Bool.{true≢false}
use Rattle.gl_bits.proofs.AllLists.{all_append}
use Rattle.gl_bits.proofs.Bools.{and_both, and_parts}
use Rattle.gl_schema.specs.Names.{is_name, is_digit}
use Rattle.gl_values.specs.declared.op.Op.TheVariants as op
use Rattle.std.specs.List as lists
use Rattle.gl_query_tokens.specs.declared.token.Fold.TheVariants as fold
use Rattle.gl_query_tokens.specs.declared.token.Join.TheVariants as join
use Rattle.gl_query_tokens.specs.declared.token.Plain.TheVariants as plain
use Rattle.gl_query_tokens.specs.declared.token.Word.TheVariants as word
use Rattle.gl_query_tokens.specs.declared.token.Token.{Token}
use Rattle.gl_query_tokens.specs.declared.token.Token.TheVariants as token
use Rattle.gl_query_tokens.specs.declared.token.Lexeme.{Lexeme}
use Rattle.gl_query_tokens.specs.declared.lexing.Class.{Class}
use Rattle.gl_query_tokens.specs.declared.lexing.Class.TheVariants.{Letter, Blank, Quote, Half, Alone}
use Rattle.gl_query_tokens.specs.declared.lexing.Follow.{Follow}
use Rattle.gl_query_tokens.specs.declared.lexing.Follow.TheVariants.{Pair, Comment, Fresh}
use Rattle.gl_query_tokens.specs.Tokens.{Mode, Between, InWord, InText, AfterHalf, InComment, Move, to, begin, in_word, after_half, move, last_of, scan, tokens_of, class_of, follow_of, sign_token, text_token, lexeme}
use Rattle.gl_query_tokens.specs.Words.{is_keyword, clause_of, window_of, operator_of, keyword_of, frame_word_of, or_else, with_digit, number_of, number_token, word_token}

abbrev pub is_letter : Class → Bool
is_letter Letter = true
is_letter Blank = false
is_letter Quote = false
is_letter Half = false
is_letter Alone = false

abbrev pub are_letters : List ℕ → Bool
are_letters [] = true
are_letters (b ∷ bs) = is_letter (class_of b) && are_letters bs

-- at least one letter, digit or underscore, and nothing else
abbrev pub is_word : List ℕ → Bool
is_word [] = false
is_word (b ∷ bs) = is_letter (class_of b) && are_letters bs

-- a byte that may stand between quotes
abbrev pub is_inside : ℕ → Bool
is_inside b = not (b == 39) && (nat_le 32 b && nat_le b 126)

abbrev pub are_inside : List ℕ → Bool
are_inside [] = true
are_inside (b ∷ bs) = is_inside b && are_inside bs

-- at most eight of them
pub record IsLetters (text : List ℕ) : Type 0 where
  pub inside : are_inside text ≡ true
  pub short : nat_le (length text) 8 ≡ true

-- the word is a name, wherever it stands
pub record IsNameWord (w : List ℕ) : Type 0 where
  pub word : is_word w ≡ true
  pub name : is_name w ≡ true
  pub token : (at : ℕ) → word_token w at ≡ token.Name (record { text = w; at = at })

abbrev pub IsSmall : ℕ → Type 0
IsSmall n = nat_lt n (2 ^ 128) ≡ true

abbrev pub IsSound : Token → Type 0
IsSound (token.Name name) = IsNameWord name.text
IsSound (token.Number n) = IsSmall n.value
IsSound (token.Letters text at) = IsLetters text
IsSound t = Unit {0}

-- ---- keywords do not depend on their places

abbrev Agree : Option Token → Option Token → Type 0
Agree None None = Unit {0}
Agree None (Some u) = ⊥
Agree (Some t) None = ⊥
Agree (Some t) (Some u) = IsSound t

record Agrees (o p : Option Token) : Type 0 where
  is : Agree o p

agree_if : (c : Bool) (t u : Token) (r s : Option Token) → IsSound t → Agrees r s → Agrees (if c then Some t else r) (if c then Some u else s)
agree_if true t u r s h a = record { is = h }
agree_if false t u r s h a = a

agree_or : (a b c d : Option Token) → Agrees a b → Agrees c d → Agrees (or_else a c) (or_else b d)
agree_or None None c d p q = q
agree_or None (Some u) c d p q = absurd p.is
agree_or (Some t) None c d p q = absurd p.is
agree_or (Some t) (Some u) c d p q = record { is = p.is }

none_agree : Agrees None None
none_agree = record { is = tt }

clauses_agree : (w : List ℕ) (a b : ℕ) → Agrees (clause_of w a) (clause_of w b)
clauses_agree w a b = agree_if (is_keyword w (codes "select")) (token.Plain plain.Select) (token.Plain plain.Select) _ _ tt (agree_if (is_keyword w (codes "from")) (token.Plain plain.From) (token.Plain plain.From) _ _ tt (agree_if (is_keyword w (codes "where")) (token.Plain plain.Where) (token.Plain plain.Where) _ _ tt (agree_if (is_keyword w (codes "group")) (token.Plain plain.Group) (token.Plain plain.Group) _ _ tt (agree_if (is_keyword w (codes "by")) (token.By a) (token.By b) _ _ tt (agree_if (is_keyword w (codes "groups")) (token.Plain plain.Groups) (token.Plain plain.Groups) _ _ tt (agree_if (is_keyword w (codes "into")) (token.Plain plain.Into) (token.Plain plain.Into) _ _ tt (agree_if (is_keyword w (codes "as")) (token.Plain plain.As) (token.Plain plain.As) _ _ tt none_agree)))))))

windows_agree : (w : List ℕ) (a b : ℕ) → Agrees (window_of w a) (window_of w b)
windows_agree w a b = agree_if (is_keyword w (codes "each")) (token.Each a) (token.Each b) _ _ tt (agree_if (is_keyword w (codes "in")) (token.Plain plain.In) (token.Plain plain.In) _ _ tt (agree_if (is_keyword w (codes "size")) (token.Size a) (token.Size b) _ _ tt (agree_if (is_keyword w (codes "advance")) (token.Plain plain.Advance) (token.Plain plain.Advance) _ _ tt (agree_if (is_keyword w (codes "tuples")) (token.Plain plain.Tuples) (token.Plain plain.Tuples) _ _ tt (agree_if (is_keyword w (codes "time")) (token.Plain plain.Time) (token.Plain plain.Time) _ _ tt (agree_if (is_keyword w (codes "union")) (token.Join join.Union a) (token.Join join.Union b) _ _ tt (agree_if (is_keyword w (codes "concat")) (token.Join join.Concat a) (token.Join join.Concat b) _ _ tt none_agree)))))))

operators_agree : (w : List ℕ) (a b : ℕ) → Agrees (operator_of w a) (operator_of w b)
operators_agree w a b = agree_if (is_keyword w (codes "and")) (token.Operator op.And a) (token.Operator op.And b) _ _ tt (agree_if (is_keyword w (codes "or")) (token.Operator op.Or a) (token.Operator op.Or b) _ _ tt (agree_if (is_keyword w (codes "not")) (token.Not a) (token.Not b) _ _ tt (agree_if (is_keyword w (codes "cast")) (token.Cast a) (token.Cast b) _ _ tt (agree_if (is_keyword w (codes "count")) (token.Count a) (token.Count b) _ _ tt (agree_if (is_keyword w (codes "sum")) (token.Fold fold.Sum a) (token.Fold fold.Sum b) _ _ tt (agree_if (is_keyword w (codes "min")) (token.Fold fold.Min a) (token.Fold fold.Min b) _ _ tt (agree_if (is_keyword w (codes "max")) (token.Fold fold.Max a) (token.Fold fold.Max b) _ _ tt (agree_if (is_keyword w (codes "avg")) (token.Fold fold.Avg a) (token.Fold fold.Avg b) _ _ tt (agree_if (is_keyword w (codes "wsum")) (token.Wsum a) (token.Wsum b) _ _ tt none_agree)))))))))

keywords_agree : (w : List ℕ) (a b : ℕ) → Agrees (keyword_of w a) (keyword_of w b)
keywords_agree w a b =
    agree_or (clause_of w a) (clause_of w b) (or_else (window_of w a) (operator_of w a)) (or_else (window_of w b) (operator_of w b)) (clauses_agree w a b)
    (agree_or (window_of w a) (window_of w b) (operator_of w a) (operator_of w b) (windows_agree w a b) (operators_agree w a b))

frame_words_agree : (w : List ℕ) (a b : ℕ) → Agrees (frame_word_of w a) (frame_word_of w b)
frame_words_agree w a b = agree_if (is_keyword w (codes "over")) (token.Word word.Over a) (token.Word word.Over b) _ _ tt (agree_if (is_keyword w (codes "filter")) (token.Word word.Filter a) (token.Word word.Filter b) _ _ tt (agree_if (is_keyword w (codes "partition")) (token.Word word.Partition a) (token.Word word.Partition b) _ _ tt (agree_if (is_keyword w (codes "rows")) (token.Word word.Rows a) (token.Word word.Rows b) _ _ tt (agree_if (is_keyword w (codes "preceding")) (token.Word word.Preceding a) (token.Word word.Preceding b) _ _ tt (agree_if (is_keyword w (codes "unbounded")) (token.Word word.Unbounded a) (token.Word word.Unbounded b) _ _ tt (agree_if (is_keyword w (codes "between")) (token.Word word.Between a) (token.Word word.Between b) _ _ tt (agree_if (is_keyword w (codes "current")) (token.Word word.Current a) (token.Word word.Current b) _ _ tt (agree_if (is_keyword w (codes "row")) (token.Word word.Row a) (token.Word word.Row b) _ _ tt (agree_if (is_keyword w (codes "lag")) (token.Word word.Lag a) (token.Word word.Lag b) _ _ tt (agree_if (is_keyword w (codes "last_value")) (token.Word word.LastValue a) (token.Word word.LastValue b) _ _ tt (agree_if (is_keyword w (codes "arrival")) (token.Word word.Arrival a) (token.Word word.Arrival b) _ _ tt (agree_if (is_keyword w (codes "asof")) (token.Word word.AsOf a) (token.Word word.AsOf b) _ _ tt (none_agree)))))))))))))

agree_none : (o : Option Token) → Agree None o → o ≡ None
agree_none None h = refl
agree_none (Some t) h = absurd h

-- ---- numbers

abbrev IsSmallIf : Option ℕ → Type 0
IsSmallIf None = Unit {0}
IsSmallIf (Some n) = IsSmall n

small_if : (a d : Bool) (x : ℕ) → nat_lt x (2 ^ 128) ≡ d → IsSmallIf (if a && d then Some x else None)
small_if true true x e = e
small_if true false x e = tt
small_if false d x e = tt

digit_small : (o : Option ℕ) (b : ℕ) → IsSmallIf (with_digit o b)
digit_small None b = tt
digit_small (Some n) b = small_if (is_digit b) (nat_lt (10 * n + (b - 48)) (2 ^ 128)) (10 * n + (b - 48)) refl

digits_small : (o : Option ℕ) (w : List ℕ) → IsSmallIf o → IsSmallIf (lists.fold with_digit o w)
digits_small o [] h = h
digits_small o (b ∷ w) h = digits_small (with_digit o b) w (digit_small o b)

number_small : (o : Option ℕ) (at : ℕ) → IsSmallIf o → IsSound (number_token o at)
number_small None at h = tt
number_small (Some n) at h = h

zero_small : IsSmall 0
zero_small = refl

number_sound : (w : List ℕ) (at : ℕ) → IsSound (number_token (number_of w) at)
unfolding number_of
number_sound w at = number_small (lists.fold with_digit (Some 0) w) at (digits_small (Some 0) w zero_small)

-- ---- words

name_token : (w : List ℕ) (at : ℕ) → keyword_of w at ≡ None → is_name w ≡ true → word_token w at ≡ token.Name (record { text = w; at = at })
unfolding word_token
name_token w at k n = rw (k, n) refl

abbrev named : List ℕ → ℕ → Bool → Token
named w at b = if b then token.Name (record { text = w; at = at }) else unwrap_or (frame_word_of w at) (number_token (number_of w) at)

framed_by : (o : Option Token) (t : Token) → Agree o o → IsSound t → IsSound (unwrap_or o t)
framed_by None t h s = s
framed_by (Some u) t h s = h

named_sound : (w : List ℕ) (at : ℕ) (b : Bool) → is_word w ≡ true → ((c : ℕ) → keyword_of w c ≡ None) → is_name w ≡ b → IsSound (named w at b)
named_sound w at true h k n = record { word = h; name = n; token = λ c. name_token w c (k c) n }
named_sound w at false h k n = framed_by (frame_word_of w at) (number_token (number_of w) at) (frame_words_agree w at at).is (number_sound w at)

word_by : (w : List ℕ) (at : ℕ) (o : Option Token) → is_word w ≡ true → keyword_of w at ≡ o → IsSound (unwrap_or o (named w at (is_name w)))
word_by w at None h e = named_sound w at (is_name w) h (λ c. agree_none (keyword_of w c) (subst (λ (o : Option Token). Agree o (keyword_of w c)) e (keywords_agree w at c).is)) refl
word_by w at (Some t) h e = subst (λ (o : Option Token). Agree o o) e (keywords_agree w at at).is

word_sound : (w : List ℕ) (at : ℕ) → is_word w ≡ true → IsSound (word_token w at)
unfolding word_token
word_sound w at h = word_by w at (keyword_of w at) h refl

-- ---- signs and literals

record Holds (t : Token) : Type 0 where
  is : IsSound t

sound_if : (c : Bool) (t u : Token) → IsSound t → Holds u → Holds (if c then t else u)
sound_if true t u p q = record { is = p }
sound_if false t u p q = q

stray_sound : Holds token.Stray
stray_sound = record { is = tt }

sign_sound : (b at : ℕ) → Holds (sign_token b at)
unfolding sign_token
sign_sound b at = sound_if (b == 40) (token.Open at) _ tt (sound_if (b == 41) (token.Plain plain.Close) _ tt (sound_if (b == 91) (token.Plain plain.LeftSquare) _ tt (sound_if (b == 93) (token.Plain plain.RightSquare) _ tt (sound_if (b == 44) (token.Plain plain.Comma) _ tt (sound_if (b == 59) (token.Plain plain.Semicolon) _ tt (sound_if (b == 58) (token.Colon at) _ tt (sound_if (b == 42) (token.Operator op.Mul at) _ tt (sound_if (b == 38) (token.Operator op.BitAnd at) _ tt (sound_if (b == 94) (token.Operator op.BitXor at) _ tt (sound_if (b == 124) (token.Operator op.BitOr at) _ tt (sound_if (b == 126) (token.Tilde at) _ tt (sound_if (b == 43) (token.Operator op.Add at) _ tt (sound_if (b == 45) (token.Operator op.Sub at) _ tt (sound_if (b == 60) (token.Operator op.Lt at) _ tt (sound_if (b == 61) (token.Operator op.Eq at) _ tt (sound_if (b == 62) (token.Operator op.Gt at) _ tt stray_sound))))))))))))))))

letters_if : (b : Bool) (w : List ℕ) (at : ℕ) → are_inside w ≡ true → nat_le (length w) 8 ≡ b → IsSound (if b then token.Letters w at else token.Stray)
letters_if true w at h e = record { inside = h; short = e }
letters_if false w at h e = tt

letters_sound : (w : List ℕ) (at : ℕ) → are_inside w ≡ true → IsSound (text_token w at)
unfolding text_token
letters_sound w at h = letters_if (nat_le (length w) 8) w at h refl

-- ---- byte by byte

abbrev IsSoundMode : Mode → Type 0
IsSoundMode Between = Unit {0}
IsSoundMode (InWord from w) = is_word w ≡ true
IsSoundMode (InText from w) = are_inside w ≡ true
IsSoundMode (AfterHalf from b) = Unit {0}
IsSoundMode InComment = Unit {0}

abbrev pub AreSound : List Lexeme → Type 0
AreSound ls = AllByRecursion (λ (l : Lexeme). IsSound l.token) ls

record IsSoundMove (m : Move) : Type 0 where
  mode : IsSoundMode m.mode
  tokens : AreSound m.tokens

begin_sound : (c : Class) (at b : ℕ) → class_of b ≡ c → IsSoundMove (begin c at b)
begin_sound Letter at b e = record { mode = rw e refl; tokens = tt }
begin_sound Blank at b e = record { mode = tt; tokens = tt }
begin_sound Quote at b e = record { mode = refl; tokens = tt }
begin_sound Half at b e = record { mode = tt; tokens = tt }
begin_sound Alone at b e = record { mode = tt; tokens = ((sign_sound b at).is, tt) }

letters-push : (w : List ℕ) (b : ℕ) → are_letters w ≡ true → class_of b ≡ Letter → are_letters (w ++ b ∷ []) ≡ true
letters-push [] b h e = rw e refl
letters-push (c ∷ w) b h e = let p = and_parts (is_letter (class_of c)) (are_letters w) h in and_both (is_letter (class_of c)) (are_letters (w ++ b ∷ [])) p.0 (letters-push w b p.1 e)

word-push : (w : List ℕ) (b : ℕ) → is_word w ≡ true → class_of b ≡ Letter → is_word (w ++ b ∷ []) ≡ true
word-push [] b h e = absurd (true≢false (sym h))
word-push (c ∷ w) b h e = letters-push (c ∷ w) b h e

inside-push : (w : List ℕ) (b : ℕ) → are_inside w ≡ true → is_inside b ≡ true → are_inside (w ++ b ∷ []) ≡ true
inside-push [] b h e = and_both (is_inside b) true e refl
inside-push (c ∷ w) b h e = let p = and_parts (is_inside c) (are_inside w) h in and_both (is_inside c) (are_inside (w ++ b ∷ [])) p.0 (inside-push w b p.1 e)

in_word_sound : (c : Class) (from : ℕ) (w : List ℕ) (at b : ℕ) → is_word w ≡ true → class_of b ≡ c → IsSoundMove (in_word c from w at b)
in_word_sound Letter from w at b h e = record { mode = word-push w b h e; tokens = tt }
in_word_sound Blank from w at b h e = let s = begin_sound Blank at b e in record { mode = s.mode; tokens = (word_sound w from h, s.tokens) }
in_word_sound Quote from w at b h e = let s = begin_sound Quote at b e in record { mode = s.mode; tokens = (word_sound w from h, s.tokens) }
in_word_sound Half from w at b h e = let s = begin_sound Half at b e in record { mode = s.mode; tokens = (word_sound w from h, s.tokens) }
in_word_sound Alone from w at b h e = let s = begin_sound Alone at b e in record { mode = s.mode; tokens = (word_sound w from h, s.tokens) }

inside_is : (b : ℕ) → (b == 39) ≡ false → (nat_le 32 b && nat_le b 126) ≡ true → is_inside b ≡ true
inside_is b e f = rw (e, f) refl

in_text_by : (q i : Bool) (from : ℕ) (w : List ℕ) (b : ℕ) → (b == 39) ≡ q → (nat_le 32 b && nat_le b 126) ≡ i → are_inside w ≡ true
    → IsSoundMove (if q then to Between (lexeme (text_token w from) from ∷ []) else if i then to (InText from (w ++ b ∷ [])) [] else to Between (lexeme token.Stray from ∷ []))
in_text_by true i from w b e f h = record { mode = tt; tokens = (letters_sound w from h, tt) }
in_text_by false true from w b e f h = record { mode = inside-push w b h (inside_is b e f); tokens = tt }
in_text_by false false from w b e f h = record { mode = tt; tokens = (tt, tt) }

half_sound : (f : Follow) (from a at b : ℕ) → IsSoundMove (after_half f from a at b)
half_sound (Pair op) from a at b = record { mode = tt; tokens = (tt, tt) }
half_sound Comment from a at b = record { mode = tt; tokens = tt }
half_sound Fresh from a at b = let s = begin_sound (class_of b) at b refl in record { mode = s.mode; tokens = ((sign_sound a from).is, s.tokens) }

comment_sound : (e : Bool) → IsSoundMove (to (if e then Between else InComment) [])
comment_sound true = record { mode = tt; tokens = tt }
comment_sound false = record { mode = tt; tokens = tt }

move_sound : (m : Mode) (at b : ℕ) → IsSoundMode m → IsSoundMove (move m at b)
move_sound Between at b h = begin_sound (class_of b) at b refl
move_sound (InWord from w) at b h = in_word_sound (class_of b) from w at b h refl
move_sound (InText from w) at b h = in_text_by (b == 39) (nat_le 32 b && nat_le b 126) from w b refl refl h
move_sound (AfterHalf from a) at b h = half_sound (follow_of a b) from a at b
move_sound InComment at b h = comment_sound (b == 10)

scan_sound : (m : Mode) (at : ℕ) (bs : List ℕ) → IsSoundMode m → IsSoundMove (scan m at bs)
scan_sound m at [] h = record { mode = h; tokens = tt }
scan_sound m at (b ∷ bs) h =
    let s = move_sound m at b h in
    let r = scan_sound (move m at b).mode (at + 1) bs s.mode in
    record { mode = r.mode; tokens = all_append (λ (l : Lexeme). IsSound l.token) (move m at b).tokens (scan (move m at b).mode (at + 1) bs).tokens s.tokens r.tokens }

last_sound : (m : Mode) → IsSoundMode m → AreSound (last_of m)
last_sound Between h = tt
last_sound (InWord from w) h = (word_sound w from h, tt)
last_sound (InText from w) h = (tt, tt)
last_sound (AfterHalf from a) h = ((sign_sound a from).is, tt)
last_sound InComment h = tt

pub text_sound : (text : List ℕ) → AreSound (tokens_of text)
unfolding tokens_of
text_sound text =
    let s = scan_sound Between 0 text tt in
    all_append (λ (l : Lexeme). IsSound l.token) (scan Between 0 text).tokens (last_of (scan Between 0 text).mode) s.tokens (last_sound (scan Between 0 text).mode s.mode)
