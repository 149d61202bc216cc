-- The laws of frames in stages. A clause cannot range over all types, so it names one; the lemmas are public.
use Rattle.std.specs.Prelude.{◌≡◌, ℕ, ◌+◌, ◌<◌, ◌≤◌, ◌^◌, List, map, Option, Some, None}
use Rattle.gl_values.specs.Totals.{sum_total}
use Rattle.gl_bits.specs.Words.{difference_of}
use Rattle.gl_net.specs.Net.{Run}
use Rattle.gl_frames.specs.Frames.{IsChoice, best_of, framed, lag_of, last_ones, number_or, row_before}
use Rattle.gl_frames_stages.specs.Columns.{LinesBehind, Tells}
use Rattle.gl_frames_stages.specs.declared.lines.Lines.{Lines}

-- a column tells what is made of the rows up to each, and one on lines as late tells what is made of that column: it
-- tells what both make of the rows
abbrev pub StagesMeet : Type 0 → Type 0 → Type 0 → Type 0
StagesMeet A B C =
    (run : Run) (m n : ℕ) (lines later : Lines) (f : List B → C) (g : List C → A) (row : ℕ → B) (mid : ℕ → C)
    (made : ℕ → A) → LinesBehind run m lines later → Tells run lines m f row mid → Tells run later n g mid made
    → Tells run lines (m + n) (λ xs. g (framed f xs)) row made

-- a value stands for itself
abbrev pub itself : ℕ → ℕ
itself x = x

-- what a sum over the last n words changes by: the word that comes, without the one that leaves
abbrev pub change_of : (ℕ → ℕ) → ℕ → ℕ → List ℕ → ℕ
change_of of w n xs = difference_of w (of (lag_of itself 0 xs)) (of (lag_of itself n xs))

-- the sum of all changes up to a row is the sum of the last n words
abbrev pub ChangesSum : Type 0
ChangesSum =
    (w n : ℕ) (of : ℕ → ℕ) → of 0 ≡ 0 → ((x : ℕ) → of x < 2 ^ w) → (xs : List ℕ)
    → sum_total w (framed (change_of of w n) xs) ≡ sum_total w (last_ones n (map of xs))

-- the better of an earlier value, where there is one, and a value
abbrev pub picked : (ℕ → ℕ → ℕ) → Option ℕ → ℕ → ℕ
picked op None x = x
picked op (Some w) x = op w x

-- the best of the last n words, 0 where there is none
abbrev pub best_in : (ℕ → ℕ → ℕ) → ℕ → List ℕ → ℕ
best_in op n xs = number_or itself (best_of op (last_ones n xs))

-- of a column of the best of so many rows, the better of what it had d rows before and of what it has is the best of d
-- rows more, where d is no more than those
abbrev pub BestsDouble : Type 0
BestsDouble =
    (op : ℕ → ℕ → ℕ) → IsChoice op → (n d : ℕ) → 1 ≤ n → d ≤ n → (xs : List ℕ)
    → picked op (row_before d (framed (best_in op n) xs)) (lag_of itself 0 (framed (best_in op n) xs))
    ≡ best_in op (n + d) xs
