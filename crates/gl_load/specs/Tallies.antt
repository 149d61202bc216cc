-- What the code tells of a run by the bytes of its lines.
-- A middle layer, proved equal to `Told` for the lines of a run: no promise rests on it.
use Rattle.std.specs.Prelude.{ℕ, ◌+◌, ◌^◌, List, [], ◌∷◌, Option, Some, None, take, drop, nat_lt, ◌==◌, if◌then◌else◌}
use Rattle.std.specs.List.{fold, position}
use Rattle.gl_tuples.specs.Values.{number_of}
use Rattle.gl_load.specs.Told.{five_lines}

-- ---- lines and their fields

-- a byte in front of the first line; in front of none it begins no line, since no line feed comes
abbrev pub in_front : ℕ → List (List ℕ) → List (List ℕ)
in_front b [] = []
in_front b (line ∷ lines) = (b ∷ line) ∷ lines

-- the lines of a text, without their line feeds
abbrev pub lines_of : List ℕ → List (List ℕ)
lines_of [] = []
lines_of (b ∷ bs) = if b == 10 then [] ∷ lines_of bs else in_front b (lines_of bs)

-- the place of the first comma
abbrev pub comma_in : List ℕ → Option ℕ
comma_in line = position (λ b. b == 44) line

-- the bytes before a place of a line; all of them where there is no such place
abbrev pub before_place : List ℕ → Option ℕ → List ℕ
before_place line None = line
before_place line (Some k) = take k line

-- what stands behind a place of a line; nothing where there is no such place
abbrev pub behind_place : List ℕ → Option ℕ → List ℕ
behind_place line None = []
behind_place line (Some k) = drop (k + 1) line

-- the bytes of a line before its first comma
abbrev pub first_field : List ℕ → List ℕ
first_field line = before_place line (comma_in line)

-- the bytes of a line behind its first comma
abbrev pub behind_comma : List ℕ → List ℕ
behind_comma line = behind_place line (comma_in line)

-- ---- the tally

-- lines of results, the sum of their counts, the last of them, and the first field of the last line of all
pub record Tally : Type 0 where
  pub results : ℕ
  pub counted : ℕ
  pub last : List ℕ
  pub end : List ℕ

-- the tally before any line
abbrev pub no_lines : Tally
no_lines = record { results = 0; counted = 0; last = []; end = [] }

-- a number below 2^64
abbrev pub small : Option ℕ → Option ℕ
small None = None
small (Some n) = if nat_lt n (2 ^ 64) then Some n else None

-- a line of a result has its count, a number of 64 bits at most, behind its cycle; the line of the end has none
unfoldable pub count_in : List ℕ → Option ℕ
count_in line = small (number_of (first_field (behind_comma line)))

-- a line that tells a count is one more result, counted and kept as the last
abbrev pub with_count : Tally → List ℕ → Option ℕ → Tally
with_count t line None = t
with_count t line (Some n) = record t { results = t.results + 1; counted = t.counted + n; last = line }

-- one line more: it may be a result, and its first field is the end's until another line comes
abbrev pub with_line : Tally → List ℕ → Tally
with_line t line = with_count (record t { end = first_field line }) line (count_in line)

-- what is told of all lines of a text
unfoldable pub tally_of : List ℕ → Tally
tally_of text = fold with_line no_lines (lines_of text)

-- what is told of n tuples whose run has these lines
unfoldable pub summary_of : ℕ → List ℕ → List ℕ
summary_of n text = let t = tally_of text in five_lines n t.results t.counted t.last t.end
