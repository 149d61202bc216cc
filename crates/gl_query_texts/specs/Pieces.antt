-- The pieces of a text of several queries: the tokens between two `;`.
use Rattle.std.specs.Prelude.{ℕ, Bool, true, false, List, [], ◌∷◌, ◌++◌, length, if◌then◌else◌}
use Rattle.gl_query_tokens.specs.declared.token.Plain.TheVariants.{Semicolon}
use Rattle.gl_query_tokens.specs.declared.token.Token.{Token}
use Rattle.gl_query_tokens.specs.declared.token.Token.TheVariants as token
use Rattle.gl_query_tokens.specs.declared.token.Lexeme.{Lexeme}
use Rattle.gl_query_tokens.specs.Tokens.{tokens_of}

-- the tokens of a piece, and the place in the text where they end
pub record Piece : Type 0 where
  pub tokens : List Lexeme
  pub end : ℕ

-- some tokens, and the place behind them
abbrev pub piece : List Lexeme → ℕ → Piece
piece tokens end = record { tokens = tokens; end = end }

-- a token that ends a query in a text of several
abbrev pub is_semicolon : Token → Bool
is_semicolon (token.Plain Semicolon) = true
is_semicolon t = false

-- these pieces, where there are tokens for them; none otherwise
abbrev pub where_some : List Lexeme → List Piece → List Piece
where_some [] ps = []
where_some (l ∷ ls) ps = ps

-- the pieces of tokens, the first of which has begun with others: one ends at its `;`, the last where all of them end;
-- behind a `;` that is the last token there is none
unfoldable pub pieces_behind : List Lexeme → List Lexeme → ℕ → List Piece
pieces_behind begun [] end = piece begun end ∷ []
pieces_behind begun (l ∷ ls) end =
    if is_semicolon l.token then piece begun l.at ∷ where_some ls (pieces_behind [] ls end)
    else pieces_behind (begun ++ l ∷ []) ls end

-- the pieces behind a `;`
abbrev pub pieces_left : List Lexeme → ℕ → List Piece
pieces_left ls end = where_some ls (pieces_behind [] ls end)

-- the pieces of a text; one without tokens has one
abbrev pub pieces_of : List ℕ → List Piece
pieces_of text = pieces_behind [] (tokens_of text) (length text)
