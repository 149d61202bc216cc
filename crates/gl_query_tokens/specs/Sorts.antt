-- What a token is.
-- A middle layer, proved equal to `Tokens`: no promise rests on it.
use Rattle.std.specs.Prelude.{ℕ, Bool, true, false, Option, Some, None, bytes_eq, if◌then◌else◌}
use Rattle.gl_query.specs.declared.tree.Name.{Name}
use Rattle.gl_query.specs.declared.tree.Num.{Num}
use Rattle.gl_query_tokens.specs.declared.token.Plain.{Plain}
use Rattle.gl_query_tokens.specs.declared.token.Plain.TheVariants.{Select, From, Where, Group, Groups, In, Advance, Tuples, Time, Into, As, Close, LeftSquare, RightSquare, Comma, Semicolon}
use Rattle.gl_query_tokens.specs.declared.token.Word.{Word}
use Rattle.gl_query_tokens.specs.declared.token.Word.TheVariants as word
use Rattle.gl_query_tokens.specs.declared.token.Spelling.{Spelling}
use Rattle.gl_query_tokens.specs.declared.token.Spelling.TheVariants.{Small, Capital}
use Rattle.gl_query_tokens.specs.declared.token.Token.{Token}
use Rattle.gl_query_tokens.specs.declared.token.Token.TheVariants as token
use Rattle.gl_query_tokens.specs.Words.{word_text}

-- two keywords or signs are the same
unfoldable pub plain_eq : Plain → Plain → Bool
plain_eq Select Select = true
plain_eq From From = true
plain_eq Where Where = true
plain_eq Group Group = true
plain_eq Groups Groups = true
plain_eq In In = true
plain_eq Advance Advance = true
plain_eq Tuples Tuples = true
plain_eq Time Time = true
plain_eq Into Into = true
plain_eq As As = true
plain_eq Close Close = true
plain_eq LeftSquare LeftSquare = true
plain_eq RightSquare RightSquare = true
plain_eq Comma Comma = true
plain_eq Semicolon Semicolon = true
plain_eq a b = false

-- the token is this keyword or sign
abbrev pub is_plain : Plain → Token → Bool
is_plain plain (token.Plain other) = plain_eq other plain
is_plain plain t = false

-- the name that a token is, if it is one
abbrev pub name_in : Token → Option Name
name_in (token.Name name) = Some name
name_in t = None

-- the number that a token is, if it is one
abbrev pub number_in : Token → Option Num
number_in (token.Number number) = Some number
number_in t = None

-- the place of an opening bracket, if the token is one
abbrev pub open_in : Token → Option ℕ
open_in (token.Open at) = Some at
open_in t = None

-- the place of SIZE, if the token is this keyword
abbrev pub size_in : Token → Option ℕ
size_in (token.Size at) = Some at
size_in t = None

-- the place of BY, if the token is this keyword
abbrev pub by_in : Token → Option ℕ
by_in (token.By at) = Some at
by_in t = None

-- two words of frames are the same
unfoldable pub word_eq : Word → Word → Bool
word_eq word.Over word.Over = true
word_eq word.Filter word.Filter = true
word_eq word.Partition word.Partition = true
word_eq word.Rows word.Rows = true
word_eq word.Preceding word.Preceding = true
word_eq word.Unbounded word.Unbounded = true
word_eq word.Between word.Between = true
word_eq word.Current word.Current = true
word_eq word.Row word.Row = true
word_eq word.Lag word.Lag = true
word_eq word.LastValue word.LastValue = true
word_eq word.Arrival word.Arrival = true
word_eq word.AsOf word.AsOf = true
word_eq a b = false

-- a name is a word of frames in small letters
abbrev pub is_small : Word → Name → Bool
is_small w name = bytes_eq name.text (word_text w)

-- how a word of frames is spelled, where this name is it
abbrev pub small_in : Word → Name → Option Spelling
small_in w name = if is_small w name then Some (Small name.at) else None

-- how a word of frames is spelled, where this one with a capital is it
abbrev pub capital_in : Word → Word → ℕ → Option Spelling
capital_in w v at = if word_eq v w then Some (Capital at) else None

-- how a word of frames is spelled, where the token is it
abbrev pub word_in : Word → Token → Option Spelling
word_in w (token.Name name) = small_in w name
word_in w (token.Word v at) = capital_in w v at
word_in w t = None
