-- The text of tokens: how each is written, and where a space stands between two.
use Rattle.std.specs.Prelude.{ℕ, Bool, true, false, List, [], ◌∷◌, ◌++◌, codes, decimal, not, ◌&&◌, if◌then◌else◌}
use Rattle.gl_values.specs.declared.op.Op.{Op}
use Rattle.gl_values.specs.declared.op.Op.TheVariants as op
use Rattle.gl_query_tokens.specs.declared.token.Fold.{Fold}
use Rattle.gl_query_tokens.specs.declared.token.Fold.TheVariants as fold
use Rattle.gl_query_tokens.specs.declared.token.Join.{Join}
use Rattle.gl_query_tokens.specs.declared.token.Join.TheVariants as join
use Rattle.gl_query_tokens.specs.declared.token.Plain.{Plain}
use Rattle.gl_query_tokens.specs.declared.token.Plain.TheVariants as plain
use Rattle.gl_query_tokens.specs.declared.token.Word.{Word}
use Rattle.gl_query_tokens.specs.declared.token.Word.TheVariants as word
use Rattle.gl_query_tokens.specs.declared.token.Token.{Token}
use Rattle.gl_query_tokens.specs.declared.token.Token.TheVariants as token
use Rattle.gl_query_printer.specs.declared.text.Behind.{Behind}
use Rattle.gl_query_printer.specs.declared.text.Behind.TheVariants.{Opening, Named, Operand, Sign, Other}

-- how an operator is written
unfoldable pub operator_text : Op → List ℕ
operator_text op.Add = codes "+"
operator_text op.Sub = codes "-"
operator_text op.Mul = codes "*"
operator_text op.BitAnd = codes "&"
operator_text op.BitOr = codes "|"
operator_text op.BitXor = codes "^"
operator_text op.ShiftLeft = codes "<<"
operator_text op.ShiftRight = codes ">>"
operator_text op.Eq = codes "="
operator_text op.Ne = codes "<>"
operator_text op.Lt = codes "<"
operator_text op.Le = codes "<="
operator_text op.Gt = codes ">"
operator_text op.Ge = codes ">="
operator_text op.And = codes "AND"
operator_text op.Or = codes "OR"

-- the names of aggregates are in small letters
unfoldable pub fold_text : Fold → List ℕ
fold_text fold.Sum = codes "sum"
fold_text fold.Min = codes "min"
fold_text fold.Max = codes "max"
fold_text fold.Avg = codes "avg"

-- the word that joins two queries
unfoldable pub join_text : Join → List ℕ
join_text join.Union = codes "UNION"
join_text join.Concat = codes "CONCAT"

-- keywords are in capitals
unfoldable pub plain_text : Plain → List ℕ
plain_text plain.Select = codes "SELECT"
plain_text plain.From = codes "FROM"
plain_text plain.Where = codes "WHERE"
plain_text plain.Group = codes "GROUP"
plain_text plain.Groups = codes "GROUPS"
plain_text plain.In = codes "IN"
plain_text plain.Advance = codes "ADVANCE"
plain_text plain.Tuples = codes "TUPLES"
plain_text plain.Time = codes "TIME"
plain_text plain.Into = codes "INTO"
plain_text plain.As = codes "AS"
plain_text plain.Close = codes ")"
plain_text plain.LeftSquare = codes "["
plain_text plain.RightSquare = codes "]"
plain_text plain.Comma = codes ","
plain_text plain.Semicolon = codes ";"

-- a word of frames, of a union by arrival, or ASOF, that is no name is in capitals
unfoldable pub capitals : Word → List ℕ
capitals word.Over = codes "OVER"
capitals word.Filter = codes "FILTER"
capitals word.Partition = codes "PARTITION"
capitals word.Rows = codes "ROWS"
capitals word.Preceding = codes "PRECEDING"
capitals word.Unbounded = codes "UNBOUNDED"
capitals word.Between = codes "BETWEEN"
capitals word.Current = codes "CURRENT"
capitals word.Row = codes "ROW"
capitals word.Lag = codes "LAG"
capitals word.LastValue = codes "LAST_VALUE"
capitals word.Arrival = codes "ARRIVAL"
capitals word.AsOf = codes "ASOF"

-- a number is written in decimal
abbrev pub number_text : ℕ → List ℕ
number_text n = decimal n

-- a text literal stands between quotes
unfoldable pub letters_text : List ℕ → List ℕ
letters_text text = codes "'" ++ text ++ codes "'"

-- how a token is written
unfoldable pub token_text : Token → List ℕ
token_text (token.Name name) = name.text
token_text (token.Number n) = number_text n.value
token_text (token.Letters text at) = letters_text text
token_text (token.Operator o at) = operator_text o
token_text (token.Open at) = codes "("
token_text (token.Colon at) = codes ":"
token_text (token.Tilde at) = codes "~"
token_text (token.Not at) = codes "NOT"
token_text (token.Cast at) = codes "CAST"
token_text (token.Count at) = codes "count"
token_text (token.Wsum at) = codes "wsum"
token_text (token.Fold f at) = fold_text f
token_text (token.Join j at) = join_text j
token_text (token.Each at) = codes "EACH"
token_text (token.By at) = codes "BY"
token_text (token.Size at) = codes "SIZE"
token_text (token.Word w at) = capitals w
token_text (token.Plain p) = plain_text p
token_text token.Stray = []

-- an operand may begin in a place
abbrev pub begins_operand : Behind → Bool
begins_operand Opening = true
begins_operand Named = false
begins_operand Operand = true
begins_operand Sign = false
begins_operand Other = false

-- a minus sign where an operand may begin is that of a number
abbrev pub is_sign : Behind → Token → Bool
is_sign b (token.Operator op.Sub at) = begins_operand b
is_sign b t = false

-- what the place behind a token is that is no number's sign
abbrev pub behind_token : Token → Behind
behind_token (token.Open at) = Opening
behind_token (token.Colon at) = Opening
behind_token (token.Plain plain.LeftSquare) = Opening
behind_token (token.Name name) = Named
behind_token (token.Count at) = Named
behind_token (token.Wsum at) = Named
behind_token (token.Fold f at) = Named
behind_token (token.Operator o at) = Operand
behind_token (token.Tilde at) = Operand
behind_token (token.Not at) = Operand
behind_token (token.Plain plain.Select) = Operand
behind_token (token.Plain plain.Where) = Operand
behind_token (token.Plain plain.Comma) = Operand
behind_token t = Other

-- what the place behind a token is, by the place where the token stands
unfoldable pub place_behind : Behind → Token → Behind
place_behind b t = if is_sign b t then Sign else behind_token t

-- no space stands before `)`, `]` and `,`
unfoldable pub is_closing : Token → Bool
is_closing (token.Plain plain.Close) = true
is_closing (token.Plain plain.RightSquare) = true
is_closing (token.Plain plain.Comma) = true
is_closing t = false

-- a token that opens a round bracket
unfoldable pub is_opening : Token → Bool
is_opening (token.Open at) = true
is_opening t = false

-- a token that is a number
abbrev pub is_number : Token → Bool
is_number (token.Number n) = true
is_number t = false

-- a space stands before a token, but none behind `(`, `[` and `:`, at the text's beginning, between a name or the keyword of
-- an aggregate and a bracket, or between a number's sign and the number
abbrev pub needs_space : Behind → Token → Bool
needs_space Opening t = false
needs_space Named t = not (is_opening t) && not (is_closing t)
needs_space Operand t = not (is_closing t)
needs_space Sign t = not (is_number t)
needs_space Other t = not (is_closing t)

-- one space between two tokens, or nothing
abbrev pub gap : Bool → List ℕ
gap true = codes " "
gap false = []

-- the text of tokens that stand behind another
abbrev pub spaced : Behind → List Token → List ℕ
spaced b [] = []
spaced b (t ∷ ts) = gap (needs_space b t) ++ token_text t ++ spaced (place_behind b t) ts

-- the text of tokens
unfoldable pub text_of : List Token → List ℕ
text_of ts = spaced Opening ts
