-- Beats in flat lists: what each has beside its rows in one, the numbers of all rows in another.
use Rattle.std.specs.Prelude.{◌≡◌, ℕ, ◌+◌, ◌/◌, ◌%◌, ◌≤◌, Bool, true, false, List, [], ◌∷◌, ◌++◌, map, length, drop, Option, Some, None, ◌==◌, nat_lt, ◌&&◌, ◌||◌, if◌then◌else◌}
use Rattle.gl_bits.specs.Words.{Word}
use Rattle.gl_gaps.specs.declared.Gaps.{Gaps}
use Rattle.gl_tuples.specs.declared.beats.Beat.{Beat}
use Rattle.gl_tuples.specs.declared.beats.Head.{Head}

-- beats in order, and a word for each parameter
pub record BeatList : Type 0 where
  pub list : List Beat
  pub sets : List ℕ

-- a row of columns of these bits, whose numbers begin a list
abbrev pub words_in : List ℕ → List ℕ → List Word
words_in [] ns = []
words_in (w ∷ ws) [] = []
words_in (w ∷ ws) (n ∷ ns) = record { bits = n; width = w } ∷ words_in ws ns

-- the row of a stream, where it has one
abbrev pub row_in : Bool → List ℕ → List ℕ → Option (List Word)
row_in true columns ns = Some (words_in columns ns)
row_in false columns ns = None

-- how many numbers it takes
abbrev pub row_size : Bool → List ℕ → ℕ
row_size true columns = length columns
row_size false columns = 0

-- bit k of a number says whether stream k has a row
abbrev pub is_odd : ℕ → Bool
is_odd p = p % 2 == 1

-- the rows of a beat, whose numbers begin a list, the first stream's in front
abbrev pub rows_in : List (List ℕ) → ℕ → List ℕ → List (Option (List Word))
rows_in [] p ns = []
rows_in (s ∷ ss) p ns = row_in (is_odd p) s ns ∷ rows_in ss (p / 2) (drop (row_size (is_odd p) s) ns)

-- how many numbers they take
abbrev pub rows_size : List (List ℕ) → ℕ → ℕ
rows_size [] p = 0
rows_size (s ∷ ss) p = row_size (is_odd p) s + rows_size ss (p / 2)

-- a beat whose numbers begin a list
abbrev pub beat_in : List (List ℕ) → List ℕ → Head → Beat
beat_in shape ns h =
    record { cycle = h.cycle; number = h.number; rows = rows_in shape h.present ns; tick = h.tick; end = h.end }

-- the beats whose numbers stand in a list, those of each from a place of its own on
abbrev pub beats_in : List (List ℕ) → List ℕ → List Head → List Beat
beats_in shape numbers heads = map (λ h. beat_in shape (drop h.first numbers) h) heads

-- the list has the numbers of a beat
abbrev pub IsInside : List (List ℕ) → List ℕ → Head → Type 0
IsInside shape numbers h = h.first + rows_size shape h.present ≤ length numbers

-- the number of the first of these that comes too early, as `first_close` says it of beats
abbrev pub close_head : Gaps → ℕ → ℕ → List Head → Option ℕ
close_head gaps next tick [] = None
close_head gaps next tick (h ∷ hs) =
    if nat_lt h.cycle next || ((h.tick || h.end) && nat_lt h.cycle tick) then Some h.number
    else close_head gaps (h.cycle + gaps.of_beats) (if h.tick then h.cycle + gaps.of_ticks else tick) hs

-- ---- numbers that are added

-- a list became longer, and a row is read off what was added
pub record RowAdded (columns : List ℕ) (row : Option (List Word)) (old new : List ℕ) (comes : Bool) : Type 0 where
  pub numbers : List ℕ
  pub grown : new ≡ old ++ numbers
  pub size : row_size comes columns ≡ length numbers
  pub back : (more : List ℕ) → row_in comes columns (numbers ++ more) ≡ row

-- the rows of a beat were added, and are read back from where they stand
pub record RowsAdded (shape : List (List ℕ)) (rows : List (Option (List Word))) (old new : List ℕ) (present : ℕ)
    : Type 0 where
  pub numbers : List ℕ
  pub grown : new ≡ old ++ numbers
  pub size : rows_size shape present ≡ length numbers
  pub back : (more : List ℕ) → rows_in shape present (numbers ++ more) ≡ rows
