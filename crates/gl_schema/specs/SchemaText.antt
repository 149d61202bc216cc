-- The text of a schema: `stream name ( name kind , .. ) ;`, once or more, and `parameter name kind ;` between them.
use Rattle.std.specs.Prelude.{◌≡◌, ℕ, ◌+◌, ◌/◌, ◌∷◌, Bool, ◌&&◌, ◌||◌, List, [], ◌++◌, map, filter_map, Option, Some, None, codes, decimal, find, nat_le, unwrap_or, ◌==◌, if◌then◌else◌}
use Rattle.std.specs.List.{flat_map}
use Rattle.gl_values.specs.declared.kind.Kind.{Kind}
use Rattle.gl_values.specs.Kinds.{width_of}
use Rattle.gl_values.specs.Operators.{same_kind}
use Rattle.gl_schema.specs.declared.schema.Column.{Column}
use Rattle.gl_schema.specs.declared.schema.Stream.{Stream}
use Rattle.gl_schema.specs.declared.schema.Schema.{Schema}
use Rattle.gl_schema.specs.declared.lexing.Class.{Class}
use Rattle.gl_schema.specs.declared.lexing.Class.TheVariants.{Letter, Blank, Dash, Other}
use Rattle.gl_schema.specs.Names.{is_digit, is_lower}
use Rattle.gl_schema.specs.Schemas.{IsSchema}
use Rattle.gl_schema.specs.Written.{Written, numbers, table}

-- a token: a word, which is a longest run of letters, digits and underscores, or any other byte that is no white space
pub data Mark : Type 0 where
  Word : (bytes : List ℕ) → Mark
  Sign : (byte : ℕ) → Mark

-- a token and the byte where it begins
pub record Token : Type 0 where
  pub at : ℕ
  pub mark : Mark

-- a word that begins at this place
abbrev pub word : ℕ → List ℕ → Token
word at bytes = record { at = at; mark = Word bytes }

-- a sign of one byte at this place
abbrev pub sign : ℕ → ℕ → Token
sign at byte = record { at = at; mark = Sign byte }

-- a letter of either case, a digit or an underscore
abbrev pub is_word_byte : ℕ → Bool
is_word_byte b = is_lower b || is_digit b || (b == 95) || (nat_le 65 b && nat_le b 90)

-- space, tab, carriage return or line feed
abbrev pub is_blank : ℕ → Bool
is_blank b = (b == 32) || (b == 9) || (b == 13) || (b == 10)

-- what a byte can do: go on a word, part tokens, begin a comment, or stand as a sign
unfoldable pub class_of : ℕ → Class
class_of b = if is_word_byte b then Letter else if is_blank b then Blank else if b == 45 then Dash else Other

-- what the bytes so far leave open: nothing, a word, one dash, or a comment
pub data Open : Type 0 where
  Between : Open
  InWord : (from : ℕ) (bytes : List ℕ) → Open
  AfterDash : (from : ℕ) → Open
  InComment : Open

-- what a byte makes of what is open: the tokens that it completes, and what is open behind it
pub record Move : Type 0 where
  pub tokens : List Token
  pub left : Open

-- a move that completes these tokens and leaves this open
abbrev pub to : List Token → Open → Move
to tokens left = record { tokens = tokens; left = left }

-- a byte behind which nothing else is open
abbrev pub begin : Class → ℕ → ℕ → Move
begin Letter at b = to [] (InWord at (b ∷ []))
begin Blank at b = to [] Between
begin Dash at b = to [] (AfterDash at)
begin Other at b = to (sign at b ∷ []) Between

-- a token ends before the byte
abbrev pub behind : Token → Move → Move
behind token m = to (token ∷ m.tokens) m.left

-- a comment goes to the end of its line
abbrev pub move : Open → Class → ℕ → ℕ → Move
move Between class at b = begin class at b
move (InWord from bytes) Letter at b = to [] (InWord from (bytes ++ b ∷ []))
move (InWord from bytes) Blank at b = behind (word from bytes) (begin Blank at b)
move (InWord from bytes) Dash at b = behind (word from bytes) (begin Dash at b)
move (InWord from bytes) Other at b = behind (word from bytes) (begin Other at b)
move (AfterDash from) Letter at b = behind (sign from 45) (begin Letter at b)
move (AfterDash from) Blank at b = behind (sign from 45) (begin Blank at b)
move (AfterDash from) Dash at b = to [] InComment
move (AfterDash from) Other at b = behind (sign from 45) (begin Other at b)
move InComment class at b = to [] (if b == 10 then Between else InComment)

-- the token that the end of the text completes
abbrev pub last_tokens : Open → List Token
last_tokens Between = []
last_tokens (InWord from bytes) = word from bytes ∷ []
last_tokens (AfterDash from) = sign from 45 ∷ []
last_tokens InComment = []

-- the tokens of the bytes from a place on
abbrev pub tokens_from : Open → ℕ → List ℕ → List Token
tokens_from left at [] = last_tokens left
tokens_from left at (b ∷ bs) = let m = move left (class_of b) at b in m.tokens ++ tokens_from m.left (at + 1) bs

-- the tokens of a whole text with their places; comments and white space are none
unfoldable pub tokens_of : List ℕ → List Token
tokens_of text = tokens_from Between 0 text

-- the size of a kind in a row
abbrev pub size_in : Written → Kind → ℕ
size_in row kind = width_of kind / row.unit

-- the row that makes a kind
unfoldable pub row_of : Kind → Written
row_of kind = unwrap_or (find (λ row. same_kind (row.make (size_in row kind)) kind) table) numbers

-- a kind as it is written: the front of its row and its size
unfoldable pub kind_text : Kind → List ℕ
kind_text kind = (row_of kind).front ++ decimal (size_in (row_of kind) kind)

-- a column is its name and its kind
abbrev pub spell_column : Column → List Mark
spell_column c = Word c.name ∷ Word (kind_text c.kind) ∷ []

-- columns stand with a comma between each two
abbrev pub spell_columns : List Column → List Mark
spell_columns [] = []
spell_columns (c ∷ []) = spell_column c
spell_columns (c ∷ d ∷ cs) = spell_column c ++ (Sign 44 ∷ spell_columns (d ∷ cs))

-- `stream name ( columns ) ;`
abbrev pub spell_stream : Stream → List Mark
spell_stream s = Word (codes "stream") ∷ Word s.name ∷ Sign 40 ∷ (spell_columns s.columns ++ Sign 41 ∷ Sign 59 ∷ [])

-- `parameter name kind ;`
abbrev pub spell_parameter : Column → List Mark
spell_parameter p = Word (codes "parameter") ∷ (spell_column p ++ Sign 59 ∷ [])

-- what a text declares: a stream, or a parameter
pub data Declaration : Type 0 where
  OfStream : (stream : Stream) → Declaration
  OfParameter : (parameter : Column) → Declaration

-- the stream that is declared, if it is one
abbrev pub stream_in : Declaration → Option Stream
stream_in (OfStream s) = Some s
stream_in (OfParameter p) = None

-- the parameter that is declared, if it is one
abbrev pub parameter_in : Declaration → Option Column
parameter_in (OfStream s) = None
parameter_in (OfParameter p) = Some p

-- the marks that spell a declaration
abbrev pub spell_declaration : Declaration → List Mark
spell_declaration (OfStream s) = spell_stream s
spell_declaration (OfParameter p) = spell_parameter p

-- the marks that spell declarations, one behind another
abbrev pub spell : List Declaration → List Mark
spell all = flat_map spell_declaration all

-- the schema of declarations: their streams and their parameters, each in their order
abbrev pub schema_in : List Declaration → Schema
schema_in all = record { streams = filter_map stream_in all; parameters = filter_map parameter_in all }

-- the text has this schema: its tokens spell declarations, streams and parameters in any order, that are the schema's
pub record IsSchemaText (text : List ℕ) (schema : Schema) : Type 0 where
  pub schema' : IsSchema schema
  pub all : List Declaration
  pub same : schema_in all ≡ schema
  pub spelled : map (λ t. t.mark) (tokens_of text) ≡ spell all
