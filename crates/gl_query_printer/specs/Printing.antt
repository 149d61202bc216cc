-- The canonical text of a statement, and what is read from it.
use Rattle.std.specs.Prelude.{◌≡◌, ℕ, true, List}
use Rattle.gl_query.specs.Shapes.{StatementShape}
use Rattle.gl_query_tokens.specs.Tokens.{tokens_of}
use Rattle.gl_query_reader.specs.Limits.{none_counted, keeps_limits}
use Rattle.gl_query.specs.Trees.{StatementTree}
use Rattle.gl_query_reader.specs.Grammar.{HasStatement, bare_tokens}
use Rattle.gl_query.specs.Alike.{statement_alike}
use Rattle.gl_query_printer.specs.Canonical.{canonical_tokens}
use Rattle.gl_query_printer.specs.Spaced.{text_of}

-- the text of the canonical tokens
abbrev pub canonical_text : StatementShape → List ℕ
canonical_text s = text_of (canonical_tokens s)

-- the text has a statement, and but for its places it is this one
pub record HasAlike (text : List ℕ) (s : StatementShape) : Type 0 where
  pub read : StatementTree
  pub found : HasStatement text read
  pub alike : statement_alike read ≡ s

-- some text has a statement like this one
abbrev pub IsPrintable : StatementShape → Type 0
IsPrintable s = (text : List ℕ) × HasAlike text s

-- no front of a text passes a limit of the reader
abbrev pub PassesNoLimit : List ℕ → Type 0
PassesNoLimit text = keeps_limits none_counted (bare_tokens (tokens_of text)) ≡ true

-- what is read from the canonical text of a statement is that statement, but for its places
abbrev pub CanonicalTextsAreRead : Type 0
CanonicalTextsAreRead =
    (s : StatementShape) → IsPrintable s → PassesNoLimit (canonical_text s) → HasAlike (canonical_text s) s
