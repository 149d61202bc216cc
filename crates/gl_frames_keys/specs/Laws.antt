-- The laws of frames with PARTITION on wires.
use Rattle.std.specs.Prelude.{◌≡◌, ℕ, ◌+◌, ◌≤◌, List, Some, None, Bool, true, false, take, slice_get, if◌then◌else◌}
use Rattle.gl_algebra.specs.declared.figures.Figures.{Figures}
use Rattle.gl_algebra.specs.FigureTable.{IsSound, delayed}
use Rattle.gl_values.specs.Lists.{has_further, keys_of}
use Rattle.gl_values.specs.Results.{Row}
use Rattle.gl_frames.specs.Frames.{by_key, framed_by_key}
use Rattle.gl_frames_keys.specs.Lanes.{IsKeyedLane, IsLaneLate, leaves_out}
use Rattle.gl_frames_wire.specs.Running.{Runs}
use Rattle.gl_frames_wire.specs.Since.{Opens, all_ends, rows_here, rows_since}
use Rattle.gl_slots.specs.Slots.{rows_of_key}
use Rattle.gl_wire.specs.Shapes.{IsDelayed}
use Rattle.gl_wire.specs.Spills.{Relation, ServesWithLines}
use Rattle.gl_wire.specs.Wire.{Carried, pending}
use Rattle.gl_wire_lanes.specs.Lanes.{Lane}

-- each row of the first keys with what is made of its key's rows so far; the others are left out, and the spill is that
-- there are any
pub record IsOfKeys (groups : ℕ) (key : Row → ℕ) (of : List Row → Row) (xs ys : List Row) (spill : Bool) : Type 0 where
  pub rows : ys ≡ framed_by_key groups key of xs
  pub left_out : spill ≡ has_further groups key xs

abbrev pub OfKeys : ℕ → (Row → ℕ) → (List Row → Row) → Relation
OfKeys groups key of = IsOfKeys groups key of

-- a wire gives that m cycles behind each row, and a line tells d cycles behind each row that is left out. There is no
-- flush: the figures are those of operators of rows
abbrev pub PartitionsServe : Type 0
PartitionsServe =
    (m d groups : ℕ) (key : Row → ℕ) (of : List Row → Row) (f : Figures) (a late b : Carried) (further : ℕ → Bool)
    → IsSound f → d ≤ m → Runs m (by_key groups key of) a b
    → IsDelayed d a late → ((c : ℕ) → further c ≡ leaves_out groups key late c)
    → ServesWithLines f (delayed m f) (OfKeys groups key of) (record { passed = λ c. false; further = further }) a b

-- the rows of a keyed lane's slot k are those of the k-th key
abbrev pub SlotsHaveKeys : Type 0
SlotsHaveKeys =
    (groups : ℕ) (key : Row → ℕ) (a : Carried) (l : Lane) (row : ℕ → Row) → IsKeyedLane groups key a l row
    → (k c : ℕ) → rows_since (all_ends l) l row k c
    ≡ rows_of_key key (pending a c) (slice_get (take groups (keys_of key (pending a c))) k)

-- it tells where the streams of its slots begin, if nothing comes in the reset cycle
abbrev pub KeyedLanesOpen : Type 0
KeyedLanesOpen =
    (groups : ℕ) (key : Row → ℕ) (a : Carried) (l : Lane) (row : ℕ → Row) → IsKeyedLane groups key a l row
    → a.tuple 0 ≡ None → Opens (all_ends l) l

-- what is one cycle behind such a lane is one, over what comes one cycle later
abbrev pub KeyedLanesGoLate : Type 0
KeyedLanesGoLate =
    (groups : ℕ) (key : Row → ℕ) (a b : Carried) (l d : Lane) (row late : ℕ → Row) → IsKeyedLane groups key a l row
    → a.tuple 0 ≡ None → IsDelayed 1 a b → IsLaneLate l d row late → IsKeyedLane groups key b d late

-- what is made of the rows of each slot, m cycles later, is what is asked of a wire d cycles before the lane
abbrev pub KeyedLanesRun : Type 0
KeyedLanesRun =
    (m d groups : ℕ) (key : Row → ℕ) (of : List Row → Row) (a late b : Carried) (l : Lane) (row made : ℕ → Row)
    → IsDelayed d a late → IsKeyedLane groups key late l row
    → ((c : ℕ) → l.valid c ≡ true → made c ≡ of (rows_here (all_ends l) l row c))
    → IsDelayed m (record { tuple = λ c. if l.valid c then Some (made c) else None; ends = l.ends }) b
    → Runs (d + m) (by_key groups key of) a b
