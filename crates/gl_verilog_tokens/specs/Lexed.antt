-- What the lexer's values stand for: where it stands in a text, and what was read.
use Rattle.std.specs.Prelude.{◌≡◌, ℕ, ◌-◌, ◌≤◌, List, [], ◌∷◌, take, drop}
use Rattle.gl_verilog.specs.Tokens as tokens
use Rattle.gl_verilog_tokens.specs.declared.standing.Standing.{Standing}
use Rattle.gl_verilog_tokens.specs.declared.standing.Standing.TheVariants as standing_is
use Rattle.gl_verilog_tokens.specs.declared.classes.Class.{Class}
use Rattle.gl_verilog_tokens.specs.declared.classes.Class.TheVariants as class_name
use Rattle.gl_verilog_tokens.specs.declared.classes.Follow.{Follow}
use Rattle.gl_verilog_tokens.specs.declared.classes.Follow.TheVariants as follow_name
use Rattle.gl_verilog_tokens.specs.View.{token_of}

-- the class of a byte, from the code's value
abbrev pub class_is : Class → tokens.Class
class_is class_name.Letter = tokens.Letter
class_is class_name.Digit = tokens.Digit
class_is class_name.Quote = tokens.Quote
class_is class_name.Blank = tokens.Blank
class_is class_name.LineEnd = tokens.LineEnd
class_is class_name.Opens = tokens.Opens
class_is class_name.Alone = tokens.Alone

-- what two bytes make, from the code's value
abbrev pub follow_is : Follow → tokens.Follow
follow_is (follow_name.Pair token) = tokens.IsPair (token_of token)
follow_is follow_name.Line = tokens.IsLine
follow_is follow_name.Block = tokens.IsBlock
follow_is follow_name.New = tokens.IsNew

-- the bytes from a place up to another
abbrev pub piece : List ℕ → ℕ → ℕ → List ℕ
piece text from at = take (at - from) (drop from text)

-- the mode of the lexer that has read so many bytes
abbrev pub mode_of : List ℕ → ℕ → Standing → tokens.Mode
mode_of text at standing_is.Between = tokens.Between
mode_of text at (standing_is.InWord from) = tokens.InWord (piece text from at)
mode_of text at (standing_is.InNumber from) = tokens.InNumber (piece text from at)
mode_of text at (standing_is.AtQuote size quote) = tokens.AtQuote size.bytes.now
mode_of text at (standing_is.AtBase base) = tokens.AtBase base.size.bytes.now base.letter base.radix
mode_of text at (standing_is.InDigits literal) =
    tokens.InDigits literal.size.bytes.now literal.radix (piece text literal.from at)
mode_of text at (standing_is.Half b from) = tokens.Half b
mode_of text at standing_is.InLine = tokens.InLine
mode_of text at (standing_is.InBlock from) = tokens.InBlock
mode_of text at (standing_is.AtStar from) = tokens.AtStar

-- what is open begins in what was read
abbrev pub IsInside : List ℕ → ℕ → Standing → Type 0
IsInside text at (standing_is.InWord from) = from ≤ at
IsInside text at (standing_is.InNumber from) = from ≤ at
IsInside text at (standing_is.AtBase base) = (base.from ≤ at) × (piece text base.from at ≡ base.letter ∷ [])
IsInside text at (standing_is.InDigits literal) = literal.from ≤ at
IsInside text at s = Unit {0}
