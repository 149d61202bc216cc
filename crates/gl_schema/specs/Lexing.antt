-- Tokens by their places in a text, as the reader keeps them.
-- A middle layer, proved equal to `SchemaText`: no promise rests on it.
use Rattle.std.specs.Prelude.{◌≡◌, ℕ, ◌≤◌, List, [], ◌∷◌, slice_range, Result, Ok, Err}
use Rattle.gl_schema.specs.declared.lexing.Standing.{Standing}
use Rattle.gl_schema.specs.declared.lexing.Standing.TheVariants as standing
use Rattle.gl_schema.specs.declared.fault.SchemaFault.{SchemaFault}
use Rattle.gl_schema.specs.declared.reading.Reading.{Reading}
use Rattle.gl_schema.specs.SchemaText.{Token, Open, Between, InWord, AfterDash, InComment, Move}
use Rattle.gl_schema.specs.SchemaFaults.{mark_at, Fails, ◌>>=◌}

-- what is open in front of a byte, by where it begins
abbrev pub open_at : List ℕ → ℕ → Standing → Open
open_at text at standing.Between = Between
open_at text at (standing.InWord from) = InWord from (slice_range text from at)
open_at text at (standing.AfterDash from) = AfterDash from
open_at text at standing.InComment = InComment

-- what is open begins in what was read
abbrev pub IsInside : ℕ → Standing → Type 0
IsInside at (standing.InWord from) = from ≤ at
IsInside at (standing.AfterDash from) = from ≤ at
IsInside at standing.Between = Unit {0}
IsInside at standing.InComment = Unit {0}

-- reading goes over tokens
abbrev pub reading_after : List Token → Reading → Result Reading SchemaFault
reading_after [] r = Ok r
reading_after (t ∷ ts) r = mark_at t.mark r t.at >>= reading_after ts

-- what a byte did: reading went over the tokens that it completed, and what is open is known by its place
abbrev pub Takes : List ℕ → ℕ → Move → Reading → Result (Standing × Reading) SchemaFault → Type 0
Takes text at m r (Ok x) = IsInside at x.0 × (open_at text at x.0 ≡ m.left) × (reading_after m.tokens r ≡ Ok x.1)
Takes text at m r (Err e) = Fails e (reading_after m.tokens r)
