-- The tokens of a text by the place from which they are read.
-- A middle layer, proved equal to `Tokens`: no promise rests on it.
use Rattle.std.specs.Prelude.{◌≡◌, ℕ, ◌<◌, ◌≤◌, List, [], ◌∷◌, length, drop, Option, Some, None}
use Rattle.gl_vcd.specs.declared.tokens.Token.{Token as Here}
use Rattle.gl_vcd.specs.Tokens.{Token, tokens_from}

-- a token as the reader holds it: its place and its bytes
abbrev pub token_of : Here → Token
token_of t = record { at = t.at; bytes = t.bytes.now }

-- the tokens from a place on, in front of which no token is open
abbrev pub tokens_behind : List ℕ → ℕ → List Token
tokens_behind text from = tokens_from None from (drop from text)

-- the first token from a place on, and the place behind it; or there is none
abbrev pub IsFirstFrom : List ℕ → ℕ → Option (Here × ℕ) → Type 0
IsFirstFrom text from None = tokens_behind text from ≡ []
IsFirstFrom text from (Some x) =
    (from < x.1) × (x.1 ≤ length text) × (tokens_behind text from ≡ token_of x.0 ∷ tokens_behind text x.1)
