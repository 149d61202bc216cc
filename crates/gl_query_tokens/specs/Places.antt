-- What is open, by its place in the text.
-- A middle layer, proved equal to `Tokens`: no promise rests on it.
use Rattle.std.specs.Prelude.{ℕ, ◌+◌, ◌-◌, ◌<◌, ◌≤◌, List, take, drop}
use Rattle.gl_query_tokens.specs.declared.lexing.Standing.{Standing}
use Rattle.gl_query_tokens.specs.declared.lexing.Standing.TheVariants as standing
use Rattle.gl_query_tokens.specs.Tokens.{Mode, Between, InWord, InText, AfterHalf, InComment}

-- the bytes of a text from a place up to another
abbrev pub part : List ℕ → ℕ → ℕ → List ℕ
part text from to = take (to - from) (drop from text)

-- a word and a text literal are the bytes from their beginning on, the literal's behind its quote
abbrev pub mode_of : List ℕ → ℕ → Standing → Mode
mode_of text at standing.Between = Between
mode_of text at (standing.InWord from) = InWord from (part text from at)
mode_of text at (standing.InText quote) = InText quote (part text (quote + 1) at)
mode_of text at (standing.AfterHalf from b) = AfterHalf from b
mode_of text at standing.InComment = InComment

-- what is open began in what was read
abbrev pub IsInside : ℕ → Standing → Type 0
IsInside at standing.Between = Unit {0}
IsInside at (standing.InWord from) = from ≤ at
IsInside at (standing.InText quote) = quote < at
IsInside at (standing.AfterHalf from b) = Unit {0}
IsInside at standing.InComment = Unit {0}
