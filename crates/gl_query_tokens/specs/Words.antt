-- Words of the query language: keywords, names and numbers.
use Rattle.std.specs.Prelude.{ℕ, ◌+◌, ◌-◌, ◌*◌, ◌^◌, Bool, ◌&&◌, List, map, codes, bytes_eq, nat_lt, Option, Some, None, unwrap_or, if◌then◌else◌}
use Rattle.std.specs.List.{fold}
use Rattle.std.specs.Char.{to_ascii_lowercase}
use Rattle.gl_values.specs.declared.op.Op.TheVariants.{And, Or}
use Rattle.gl_query_tokens.specs.declared.token.Fold.TheVariants.{Sum, Min, Max, Avg}
use Rattle.gl_query_tokens.specs.declared.token.Join.TheVariants.{Union, Concat}
use Rattle.gl_query_tokens.specs.declared.token.Plain.TheVariants.{Select, From, Where, Group, Groups, In, Advance, Tuples, Time, Into, As}
use Rattle.gl_query_tokens.specs.declared.token.Word.{Word}
use Rattle.gl_query_tokens.specs.declared.token.Word.TheVariants as word
use Rattle.gl_query_tokens.specs.declared.token.Token.{Token}
use Rattle.gl_query_tokens.specs.declared.token.Token.TheVariants as token
use Rattle.gl_schema.specs.Names.{is_name, is_digit}

-- the word, in either case, is this keyword
unfoldable pub is_keyword : List ℕ → List ℕ → Bool
is_keyword word keyword = bytes_eq (map to_ascii_lowercase word) (map to_ascii_lowercase keyword)

-- the first of two tokens that is there
abbrev pub or_else : Option Token → Option Token → Option Token
or_else None b = b
or_else (Some t) b = Some t

-- the keywords of a select
abbrev pub clause_of : List ℕ → ℕ → Option Token
clause_of w at = if is_keyword w (codes "select") then Some (token.Plain Select) else
    if is_keyword w (codes "from") then Some (token.Plain From) else
    if is_keyword w (codes "where") then Some (token.Plain Where) else
    if is_keyword w (codes "group") then Some (token.Plain Group) else
    if is_keyword w (codes "by") then Some (token.By at) else
    if is_keyword w (codes "groups") then Some (token.Plain Groups) else
    if is_keyword w (codes "into") then Some (token.Plain Into) else
    if is_keyword w (codes "as") then Some (token.Plain As) else None

-- the keywords of windows, bodies and what stands between queries
abbrev pub window_of : List ℕ → ℕ → Option Token
window_of w at = if is_keyword w (codes "each") then Some (token.Each at) else
    if is_keyword w (codes "in") then Some (token.Plain In) else
    if is_keyword w (codes "size") then Some (token.Size at) else
    if is_keyword w (codes "advance") then Some (token.Plain Advance) else
    if is_keyword w (codes "tuples") then Some (token.Plain Tuples) else
    if is_keyword w (codes "time") then Some (token.Plain Time) else
    if is_keyword w (codes "union") then Some (token.Join Union at) else
    if is_keyword w (codes "concat") then Some (token.Join Concat at) else None

-- the keywords of expressions and aggregates
abbrev pub operator_of : List ℕ → ℕ → Option Token
operator_of w at = if is_keyword w (codes "and") then Some (token.Operator And at) else
    if is_keyword w (codes "or") then Some (token.Operator Or at) else
    if is_keyword w (codes "not") then Some (token.Not at) else
    if is_keyword w (codes "cast") then Some (token.Cast at) else
    if is_keyword w (codes "count") then Some (token.Count at) else
    if is_keyword w (codes "sum") then Some (token.Fold Sum at) else
    if is_keyword w (codes "min") then Some (token.Fold Min at) else
    if is_keyword w (codes "max") then Some (token.Fold Max at) else
    if is_keyword w (codes "avg") then Some (token.Fold Avg at) else
    if is_keyword w (codes "wsum") then Some (token.Wsum at) else None

-- a word that names a clause, a window's part or an operator is that keyword
abbrev pub keyword_of : List ℕ → ℕ → Option Token
keyword_of w at = or_else (clause_of w at) (or_else (window_of w at) (operator_of w at))

-- the words of frames, of a union by arrival, and ASOF, which are names in small letters
abbrev pub frame_word_of : List ℕ → ℕ → Option Token
frame_word_of w at = if is_keyword w (codes "over") then Some (token.Word word.Over at) else
    if is_keyword w (codes "filter") then Some (token.Word word.Filter at) else
    if is_keyword w (codes "partition") then Some (token.Word word.Partition at) else
    if is_keyword w (codes "rows") then Some (token.Word word.Rows at) else
    if is_keyword w (codes "preceding") then Some (token.Word word.Preceding at) else
    if is_keyword w (codes "unbounded") then Some (token.Word word.Unbounded at) else
    if is_keyword w (codes "between") then Some (token.Word word.Between at) else
    if is_keyword w (codes "current") then Some (token.Word word.Current at) else
    if is_keyword w (codes "row") then Some (token.Word word.Row at) else
    if is_keyword w (codes "lag") then Some (token.Word word.Lag at) else
    if is_keyword w (codes "last_value") then Some (token.Word word.LastValue at) else
    if is_keyword w (codes "arrival") then Some (token.Word word.Arrival at) else
    if is_keyword w (codes "asof") then Some (token.Word word.AsOf at) else None

-- the letters of such a word
unfoldable pub word_text : Word → List ℕ
word_text word.Over = codes "over"
word_text word.Filter = codes "filter"
word_text word.Partition = codes "partition"
word_text word.Rows = codes "rows"
word_text word.Preceding = codes "preceding"
word_text word.Unbounded = codes "unbounded"
word_text word.Between = codes "between"
word_text word.Current = codes "current"
word_text word.Row = codes "row"
word_text word.Lag = codes "lag"
word_text word.LastValue = codes "last_value"
word_text word.Arrival = codes "arrival"
word_text word.AsOf = codes "asof"

-- a number and one more byte: None where that is no digit, or the number would reach 2 ^ 128
abbrev pub with_digit : Option ℕ → ℕ → Option ℕ
with_digit None b = None
with_digit (Some n) b = if is_digit b && nat_lt (10 * n + (b - 48)) (2 ^ 128) then Some (10 * n + (b - 48)) else None

-- the number that digits spell in decimal, where it is below 2 ^ 128
unfoldable pub number_of : List ℕ → Option ℕ
number_of w = fold with_digit (Some 0) w

-- a word of digits is a number where its value is in range, and else belongs to no statement
abbrev pub number_token : Option ℕ → ℕ → Token
number_token None at = token.Stray
number_token (Some n) at = token.Number (record { value = n; at = at })

-- the token of a run of letters, digits and underscores that begins at a place: a word of frames is one where it is no
-- name, since it has a capital
unfoldable pub word_token : List ℕ → ℕ → Token
word_token w at =
    unwrap_or (keyword_of w at) (if is_name w then token.Name (record { text = w; at = at })
    else unwrap_or (frame_word_of w at) (number_token (number_of w) at))
