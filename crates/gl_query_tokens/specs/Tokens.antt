-- The tokens of a query text: white space and comments part them, and the longest token is taken.
use Rattle.std.specs.Prelude.{ℕ, ◌+◌, Bool, ◌&&◌, ◌||◌, List, [], ◌∷◌, ◌++◌, length, nat_le, ◌==◌, if◌then◌else◌}
use Rattle.gl_values.specs.declared.op.Op.TheVariants.{Add, Sub, Mul, BitAnd, BitOr, BitXor, ShiftLeft, ShiftRight, Eq, Ne, Lt, Le, Gt, Ge}
use Rattle.gl_query_tokens.specs.declared.token.Plain.TheVariants.{Close, LeftSquare, RightSquare, Comma, Semicolon}
use Rattle.gl_query_tokens.specs.declared.token.Token.{Token}
use Rattle.gl_query_tokens.specs.declared.token.Token.TheVariants as token
use Rattle.gl_query_tokens.specs.declared.token.Lexeme.{Lexeme}
use Rattle.gl_query_tokens.specs.declared.lexing.Class.{Class}
use Rattle.gl_query_tokens.specs.declared.lexing.Class.TheVariants.{Letter, Blank, Quote, Half, Alone}
use Rattle.gl_query_tokens.specs.declared.lexing.Follow.{Follow}
use Rattle.gl_query_tokens.specs.declared.lexing.Follow.TheVariants.{Pair, Comment, Fresh}
use Rattle.gl_schema.specs.Names.{is_digit, is_lower}
use Rattle.gl_query_tokens.specs.Words.{word_token}

-- a letter of either case, a digit or an underscore
abbrev pub is_word_byte : ℕ → Bool
is_word_byte b = is_lower b || is_digit b || (b == 95) || (nat_le 65 b && nat_le b 90)

-- space, tab, carriage return or line feed
abbrev pub is_blank : ℕ → Bool
is_blank b = (b == 32) || (b == 9) || (b == 13) || (b == 10)

-- < > - ! : a byte that may begin a sign of two bytes, or a comment
abbrev pub is_half : ℕ → Bool
is_half b = (b == 60) || (b == 62) || (b == 45) || (b == 33)

-- each byte has one class; what begins no word, text, space or longer sign stands alone
unfoldable pub class_of : ℕ → Class
class_of b =
    if is_word_byte b then Letter else if is_blank b then Blank else if b == 39 then Quote else if is_half b then Half
    else Alone

-- the sign of one byte, where there is one
unfoldable pub sign_token : ℕ → ℕ → Token
sign_token b at = if b == 40 then token.Open at else
    if b == 41 then token.Plain Close else
    if b == 91 then token.Plain LeftSquare else
    if b == 93 then token.Plain RightSquare else
    if b == 44 then token.Plain Comma else
    if b == 59 then token.Plain Semicolon else
    if b == 58 then token.Colon at else
    if b == 42 then token.Operator Mul at else
    if b == 38 then token.Operator BitAnd at else
    if b == 94 then token.Operator BitXor at else
    if b == 124 then token.Operator BitOr at else
    if b == 126 then token.Tilde at else
    if b == 43 then token.Operator Add at else
    if b == 45 then token.Operator Sub at else
    if b == 60 then token.Operator Lt at else
    if b == 61 then token.Operator Eq at else
    if b == 62 then token.Operator Gt at else token.Stray

-- two bytes that are one sign, or begin a comment; != is <>
unfoldable pub follow_of : ℕ → ℕ → Follow
follow_of a b = if (a == 60) && (b == 61) then Pair Le else
    if (a == 60) && (b == 62) then Pair Ne else
    if (a == 62) && (b == 61) then Pair Ge else
    if (a == 60) && (b == 60) then Pair ShiftLeft else
    if (a == 62) && (b == 62) then Pair ShiftRight else
    if (a == 33) && (b == 61) then Pair Ne else
    if (a == 45) && (b == 45) then Comment else Fresh

-- what stands between quotes has at most 8 bytes
unfoldable pub text_token : List ℕ → ℕ → Token
text_token w at = if nat_le (length w) 8 then token.Letters w at else token.Stray

-- what the bytes so far leave open
pub data Mode : Type 0 where
  Between : Mode
  InWord : (from : ℕ) (bytes : List ℕ) → Mode
  InText : (from : ℕ) (bytes : List ℕ) → Mode
  AfterHalf : (from b : ℕ) → Mode
  InComment : Mode

-- a token and the place where it begins
abbrev pub lexeme : Token → ℕ → Lexeme
lexeme token at = record { token = token; at = at }

-- what a byte makes of what is open: the tokens that it completes, and what is open behind it
pub record Move : Type 0 where
  pub mode : Mode
  pub tokens : List Lexeme

-- a move to a mode that completes these tokens
abbrev pub to : Mode → List Lexeme → Move
to mode tokens = record { mode = mode; tokens = tokens }

-- a byte behind which nothing else is open
abbrev pub begin : Class → ℕ → ℕ → Move
begin Letter at b = to (InWord at (b ∷ [])) []
begin Blank at b = to Between []
begin Quote at b = to (InText at []) []
begin Half at b = to (AfterHalf at b) []
begin Alone at b = to Between (lexeme (sign_token b at) at ∷ [])

-- a token ends before the byte
abbrev pub behind : Lexeme → Move → Move
behind l m = to m.mode (l ∷ m.tokens)

-- letters and digits go on a word; any other byte completes it and is read anew
abbrev pub in_word : Class → ℕ → List ℕ → ℕ → ℕ → Move
in_word Letter from w at b = to (InWord from (w ++ b ∷ [])) []
in_word Blank from w at b = behind (lexeme (word_token w from) from) (begin Blank at b)
in_word Quote from w at b = behind (lexeme (word_token w from) from) (begin Quote at b)
in_word Half from w at b = behind (lexeme (word_token w from) from) (begin Half at b)
in_word Alone from w at b = behind (lexeme (word_token w from) from) (begin Alone at b)

-- between quotes stand the bytes 0x20 to 0x7E
abbrev pub in_text : ℕ → List ℕ → ℕ → Move
in_text from w b = if b == 39 then to Between (lexeme (text_token w from) from ∷ []) else
    if nat_le 32 b && nat_le b 126 then to (InText from (w ++ b ∷ [])) [] else to Between (lexeme token.Stray from ∷ [])

-- behind the first byte of a sign: an operator of two bytes, a comment, or two things that are read apart
abbrev pub after_half : Follow → ℕ → ℕ → ℕ → ℕ → Move
after_half (Pair op) from a at b = to Between (lexeme (token.Operator op from) from ∷ [])
after_half Comment from a at b = to InComment []
after_half Fresh from a at b = behind (lexeme (sign_token a from) from) (begin (class_of b) at b)

-- a comment goes to the end of its line
abbrev pub move : Mode → ℕ → ℕ → Move
move Between at b = begin (class_of b) at b
move (InWord from w) at b = in_word (class_of b) from w at b
move (InText from w) at b = in_text from w b
move (AfterHalf from a) at b = after_half (follow_of a b) from a at b
move InComment at b = to (if b == 10 then Between else InComment) []

-- the token that the end of the text completes
abbrev pub last_of : Mode → List Lexeme
last_of Between = []
last_of (InWord from w) = lexeme (word_token w from) from ∷ []
last_of (InText from w) = lexeme token.Stray from ∷ []
last_of (AfterHalf from a) = lexeme (sign_token a from) from ∷ []
last_of InComment = []

-- what the bytes from a place on give, and what they leave open
abbrev pub then_scan : Move → Move → Move
then_scan x y = to y.mode (x.tokens ++ y.tokens)

-- what bytes give from a mode on, and the mode behind them
abbrev pub scan : Mode → ℕ → List ℕ → Move
scan m at [] = to m []
scan m at (b ∷ bs) = then_scan (move m at b) (scan (move m at b).mode (at + 1) bs)

-- the tokens of a text, each with its place
unfoldable pub tokens_of : List ℕ → List Lexeme
tokens_of text = let r = scan Between 0 text in r.tokens ++ last_of r.mode
