-- Where the tokens of a text begin, told of each front of the text.
use Rattle.std.specs.Prelude.{◌≡◌, ℕ, ◌<◌, ◌≤◌, List, [], ◌∷◌, ◌++◌, map, take, length, Some, slice_get}
use Rattle.gl_verilog.specs.Tokens.{tokens_of, IsPlaceOf}
use Rattle.gl_verilog_tokens.specs.declared.token.Lexeme.{Lexeme}
use Rattle.gl_verilog_tokens.specs.declared.standing.Standing.{Standing}
use Rattle.gl_verilog_tokens.specs.declared.standing.Standing.TheVariants as standing_is

-- the places of tokens in their order
abbrev pub places_in : List Lexeme → List ℕ
places_in lexemes = map (λ l. l.at) lexemes

-- each of these is the place of the token of its number
abbrev pub ArePlaces : List ℕ → List ℕ → Type 0
ArePlaces text places = (k p : ℕ) → slice_get places k ≡ Some p → IsPlaceOf text k p

-- the places of the tokens that are open, which the end of the text would complete
abbrev pub opened : Standing → List ℕ
opened standing_is.Between = []
opened (standing_is.InWord from) = from ∷ []
opened (standing_is.InNumber from) = from ∷ []
opened (standing_is.AtQuote size quote) = size.at ∷ quote ∷ []
opened (standing_is.AtBase base) = base.size.at ∷ base.quote ∷ base.from ∷ []
opened (standing_is.InDigits literal) = literal.size.at ∷ []
opened (standing_is.Half b from) = from ∷ []
opened standing_is.InLine = []
opened (standing_is.InBlock from) = from ∷ []
opened (standing_is.AtStar from) = from ∷ []

-- one list is a front of the other
abbrev pub IsFront : List ℕ → List ℕ → Type 0
IsFront a b = take (length a) b ≡ a

-- one byte more: what was open may be so still, or be complete, or be no token; and the byte may begin one
abbrev pub IsNext : ℕ → List ℕ → List ℕ → Type 0
IsNext at old new = IsFront new (old ++ at ∷ [])

-- how many tokens the text's front of so many bytes has
abbrev pub count : List ℕ → ℕ → ℕ
count text q = length (tokens_of (take q text))

-- each of these is the place of the token of its number, as far as a front of the text tells
abbrev pub AreSoFar : List ℕ → ℕ → List ℕ → Type 0
AreSoFar text at places =
    (k p : ℕ) → slice_get places k ≡ Some p → (p ≤ at) × (count text p ≤ k)
    × ((q : ℕ) → p < q → q ≤ at → k < count text q)
