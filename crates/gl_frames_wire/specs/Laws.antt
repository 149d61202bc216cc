-- The laws of frames on wires and lanes. A clause cannot range over all types, so it names one; the lemmas are public.
use Rattle.std.specs.Prelude.{◌≡◌, ℕ, suc, ◌+◌, ◌-◌, ◌<◌, ◌≤◌, ◌%◌, ◌^◌, Bool, true, false, List, [], Option, Some, None, fold, length, nat_le, if◌then◌else◌}
use Rattle.gl_values.specs.Results.{Row}
use Rattle.gl_values.specs.Totals.{sum_total}
use Rattle.gl_bits.specs.Words.{difference_of, sum_of}
use Rattle.gl_algebra.specs.declared.figures.Figures.{Figures}
use Rattle.gl_algebra.specs.FigureTable.{IsSound, delayed, settled}
use Rattle.gl_frames.specs.Frames.{best_of, better_of, framed, IsChoice, last_ones, row_before}
use Rattle.gl_frames_wire.specs.Rings.{IsRing, wind}
use Rattle.gl_frames_wire.specs.Running.{Each, Runs}
use Rattle.gl_frames_wire.specs.Since.{Opens, own_ends, rows_here, rows_past, rows_since}
use Rattle.gl_wire.specs.Pace.{Follows}
use Rattle.gl_wire.specs.Serves.{Serves}
use Rattle.gl_wire.specs.Shapes.{IsDelayed}
use Rattle.gl_wire.specs.Wire.{Carried, carried, line_at}
use Rattle.gl_wire.specs.declared.wire.Wire.{Wire}
use Rattle.gl_net.specs.Net.{Run}
use Rattle.gl_wire_lanes.specs.Shares.{rows_of}
use Rattle.gl_wire_lanes.specs.Keeping.{IsKept, Steps}
use Rattle.gl_wire_lanes.specs.Lanes.{Lane, rows_before, single}

-- a state that is what `of` makes of the slot's rows, before a row and with it
pub record IsMadeOf {A B : Type 0} (of : List B → A) (over : ℕ → ℕ → Bool) (l : Lane) (row : ℕ → B)
    (before now : ℕ → A) (c : ℕ) : Type 0 where
  pub past : before c ≡ of (rows_past over l row c)
  pub here : now c ≡ of (rows_here over l row c)

-- with each row it becomes so, where it was so before
pub record Becomes {A B : Type 0} (of : List B → A) (over : ℕ → ℕ → Bool) (l : Lane) (row : ℕ → B) (before now : ℕ → A)
    : Type 0 where
  pub with_row : (c : ℕ) → l.valid (suc c) ≡ true → before (suc c) ≡ of (rows_past over l row (suc c))
      → now (suc c) ≡ of (rows_here over l row (suc c))
  pub without : (c : ℕ) → l.valid (suc c) ≡ false → now (suc c) ≡ before (suc c)

-- then what is kept for slots is so with each row, whatever the words were at the start
abbrev pub SlotsAre : Type 0 → Type 0 → Type 0
SlotsAre A B =
    (of : List B → A) (over : ℕ → ℕ → Bool) (l : Lane) (row : ℕ → B) (before now : ℕ → A)
    → Opens over l → IsKept (of []) l before now → Becomes of over l row before now
    → (c : ℕ) → l.valid (suc c) ≡ true → IsMadeOf of over l row before now (suc c)

-- what takes a step with each row is the fold
abbrev pub SlotsFold : Type 0 → Type 0 → Type 0
SlotsFold A B =
    (step : A → B → A) (initial : A) (over : ℕ → ℕ → Bool) (l : Lane) (row : ℕ → B) (before now : ℕ → A)
    → Opens over l → IsKept initial l before now → Steps step l row before now
    → (c : ℕ) → l.valid (suc c) ≡ true → IsMadeOf (fold step initial) over l row before now (suc c)

-- a column that carries with each row what is made of the rows so far carries all that is made of them
abbrev pub ColumnsAreFramed : Type 0 → Type 0 → Type 0
ColumnsAreFramed A B =
    (f : List B → A) (over : ℕ → ℕ → Bool) (l : Lane) (row : ℕ → B) (made : ℕ → A) → l.valid 0 ≡ false
    → ((c : ℕ) → l.valid (suc c) ≡ true → made (suc c) ≡ f (rows_here over l row (suc c)))
    → (k c : ℕ) → rows_since over l made k c ≡ framed f (rows_since over l row k c)

-- with a slot's own ends the rows are those of gl_wire_lanes
abbrev pub OwnEndsAreLanes : Type 0 → Type 0
OwnEndsAreLanes B =
    (l : Lane) (row : ℕ → B) (k c : ℕ) → rows_since (own_ends l) l row k c ≡ rows_before l row k c

-- a ring gives the row k before, where there were so many
abbrev pub RingsGive : Type 0 → Type 0
RingsGive B =
    (size k : ℕ) (over : ℕ → ℕ → Bool) (l : Lane) (row : ℕ → B) (place : ℕ → ℕ) (out : ℕ → B)
    → 1 ≤ k → k ≤ size → l.valid 0 ≡ false → IsRing size k l row place out
    → ((c : ℕ) → l.valid (suc c) ≡ true → place (suc c) ≡ length (rows_past over l row (suc c)) % size)
    → (c : ℕ) → l.valid (suc c) ≡ true → k ≤ length (rows_past over l row (suc c))
    → row_before k (rows_here over l row (suc c)) ≡ Some (out (suc c))

-- and where there were fewer there is none
abbrev pub RingsTell : Type 0 → Type 0
RingsTell B =
    (k : ℕ) (over : ℕ → ℕ → Bool) (l : Lane) (row : ℕ → B) (c : ℕ)
    → l.valid (suc c) ≡ true → length (rows_past over l row (suc c)) < k
    → row_before k (rows_here over l row (suc c)) ≡ None

-- the count of a ring, a fold over rows of any type, tells the place and whether there were so many
pub record TellsNumber (size n number : ℕ) : Type 0 where
  pub place : n % size ≡ number % size
  pub many : (k : ℕ) → k ≤ size → nat_le k n ≡ nat_le k number
  pub bound : n < size + size

abbrev pub CountsWind : Type 0 → Type 0
CountsWind B =
    (size : ℕ) (xs : List B) → 1 ≤ size
    → TellsNumber size (fold (λ n x. wind size n) 0 xs) (length xs)

-- a wire that gives for each row what is made of its stream so far, m cycles later, serves that
abbrev pub RunningServes : Type 0
RunningServes =
    (m : ℕ) (f : List Row → Option Row) (a b : Carried) (g : Figures) → Runs m f a b
    → Serves g (delayed m g) (Each f) a b

-- the same with the settled figures of operators of rows
abbrev pub RunningSettles : Type 0
RunningSettles =
    (m : ℕ) (f : List Row → Option Row) (a b : Carried) (g : Figures) → IsSound (delayed m g) → Runs m f a b
    → Serves g (settled (delayed m g)) (Each f) a b

-- where no row is left out it keeps the source's pace
abbrev pub RunningKeepsPace : Type 0
RunningKeepsPace =
    (m : ℕ) (g : List Row → Row) (a b : Carried) → Runs m (λ xs. Some (g xs)) a b → Follows m a b

-- ---- columns of frames

-- a ring of a column, and the number of rows before each row: what it gives counts only where there were so many
pub record GivesLag {B : Type 0} (size k : ℕ) (over : ℕ → ℕ → Bool) (l : Lane) (row : ℕ → B) (out : ℕ → B)
    (many : ℕ → Bool) : Type 0 where
  pub place : ℕ → ℕ
  pub some' : 1 ≤ k
  pub few : k ≤ size
  pub no_row : l.valid 0 ≡ false
  pub ring : IsRing size k l row place out
  pub places : (c : ℕ) → l.valid (suc c) ≡ true → place (suc c) ≡ length (rows_past over l row (suc c)) % size
  pub tells : (c : ℕ) → l.valid (suc c) ≡ true → many (suc c) ≡ nat_le k (length (rows_past over l row (suc c)))

-- lag
abbrev pub LagsAreGiven : Type 0 → Type 0
LagsAreGiven B =
    (size k : ℕ) (over : ℕ → ℕ → Bool) (l : Lane) (row : ℕ → B) (out : ℕ → B) (many : ℕ → Bool)
    → GivesLag size k over l row out many → (c : ℕ) → l.valid (suc c) ≡ true
    → row_before k (rows_here over l row (suc c)) ≡ (if many (suc c) then Some (out (suc c)) else None)

-- the sum of the last k words: a state, to which comes what comes, and from which goes what leaves
abbrev pub SumsAreFramed : Type 0
SumsAreFramed =
    (w size k : ℕ) (over : ℕ → ℕ → Bool) (l : Lane) (word out : ℕ → ℕ) (many : ℕ → Bool) (before now : ℕ → ℕ)
    → Opens over l → GivesLag size k over l word out many → IsKept 0 l before now
    → ((c : ℕ) → l.valid (suc c) ≡ true → out (suc c) < 2 ^ w)
    → ((c : ℕ) → now (suc c)
    ≡ (if l.valid (suc c)
    then difference_of w (sum_of w (before (suc c)) (word (suc c))) (if many (suc c) then out (suc c) else 0)
    else before (suc c)))
    → (c : ℕ) → l.valid (suc c) ≡ true
    → now (suc c) ≡ sum_total w (last_ones k (rows_here over l word (suc c)))

-- the best of the last n rows, from a column with that of the last p and a ring of it
abbrev pub BestsAreFramed : Type 0 → Type 0
BestsAreFramed B =
    (op : B → B → B) → IsChoice op
    → (size n p : ℕ) (over : ℕ → ℕ → Bool) (l : Lane) (row : ℕ → B) (best out : ℕ → Option B) (many : ℕ → Bool)
    → p ≤ n → n ≤ p + p → GivesLag size (n - p) over l best out many
    → ((c : ℕ) → l.valid (suc c) ≡ true → best (suc c) ≡ best_of op (last_ones p (rows_here over l row (suc c))))
    → (c : ℕ) → l.valid (suc c) ≡ true
    → better_of op (if many (suc c) then out (suc c) else None) (best (suc c))
    ≡ best_of op (last_ones n (rows_here over l row (suc c)))

-- ---- the wire

-- what is made of the rows so far of streams one after another, m cycles later, is what a wire gives for each row
abbrev pub streams_of : Run → Wire → Lane
streams_of run w = single (line_at run w.valid) (line_at run w.eos)

abbrev pub StreamsRun : Type 0
StreamsRun =
    (m : ℕ) (of : List Row → Row) (run : Run) (w : Wire) (made : ℕ → Row) (b : Carried)
    → ((c : ℕ) → line_at run w.valid (suc c) ≡ true
    → made (suc c) ≡ of (rows_here (own_ends (streams_of run w)) (streams_of run w) (rows_of run w) (suc c)))
    → IsDelayed m (record {
      tuple = λ c. if line_at run w.valid c then Some (made c) else None;
      ends = line_at run w.eos;
    }) b
    → Runs m (λ xs. Some (of xs)) (carried run w) b
