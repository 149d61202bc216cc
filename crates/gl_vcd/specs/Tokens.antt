-- The tokens of a value change dump: what stands between white space. After IEEE 1364-2005, clause 18 (value change dump
-- files), of which this is a part.
use Rattle.std.specs.Prelude.{ℕ, ◌+◌, List, [], ◌∷◌, ◌++◌, Option, Some, None, if◌then◌else◌}
use Rattle.gl_schema.specs.SchemaText.{is_blank}

-- bytes without white space, and the byte where they begin
pub record Token : Type 0 where
  pub at : ℕ
  pub bytes : List ℕ

-- the token that is begun in front of a byte, with the byte
abbrev pub with_byte : Option Token → ℕ → ℕ → Token
with_byte None at b = record { at = at; bytes = b ∷ [] }
with_byte (Some held) at b = record held { bytes = held.bytes ++ b ∷ [] }

-- the token that white space or the end of the text completes
abbrev pub completed : Option Token → List Token
completed None = []
completed (Some held) = held ∷ []

-- the tokens of the bytes from a place on
abbrev pub tokens_from : Option Token → ℕ → List ℕ → List Token
tokens_from held at [] = completed held
tokens_from held at (b ∷ bs) =
    if is_blank b then completed held ++ tokens_from None (at + 1) bs
    else tokens_from (Some (with_byte held at b)) (at + 1) bs

-- the tokens of a whole text with their places
unfoldable pub tokens_of : List ℕ → List Token
tokens_of text = tokens_from None 0 text
