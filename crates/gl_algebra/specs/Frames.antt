-- What each item of a node of frames takes: cycles, rings in memories, and the digits of a divider. A frame is an item
-- that looks at more than its row.
use Rattle.std.specs.Prelude.{ℕ, zero, suc, ◌+◌, ◌-◌, ◌*◌, ◌^◌, min, max, List, [], ◌∷◌, Option, Some, None}
use Rattle.gl_values.specs.Kinds.{width_of}
use Rattle.gl_values.specs.declared.kind.Kind.{Kind}
use Rattle.gl_algebra.specs.declared.node.PlanFrame.{PlanFrame}
use Rattle.gl_algebra.specs.declared.node.PlanFrame.TheVariants.{Own, Lag, Over}
use Rattle.gl_algebra.specs.declared.node.PlanFrameAgg.{PlanFrameAgg}
use Rattle.gl_algebra.specs.declared.node.PlanFrameAgg.TheVariants.{Count, Sum, Min, Max, Avg, LastValue}
use Rattle.gl_algebra.specs.Columns.{kind_of_operand}
use Rattle.gl_algebra.specs.Rings.{digits, ring}

-- 1 for a frame, 0 for an operand of the row itself
abbrev pub frames_in : PlanFrame → ℕ
frames_in (Own operand) = 0
frames_in (Lag operand back) = 1
frames_in (Over agg filter back) = 1

-- ---- dividers

-- the bits of the number of rows in a frame: of all rows 32
abbrev pub digits_of_rows : Option ℕ → ℕ
digits_of_rows None = 32
digits_of_rows (Some back) = digits (back + 1)

-- the digits of the divider of a function, 0 where it has none: those of the sum of all values of a frame
abbrev pub digits_over : List Kind → PlanFrameAgg → Option ℕ → ℕ
digits_over kinds Count back = 0
digits_over kinds (Sum operand) back = 0
digits_over kinds (Min operand) back = 0
digits_over kinds (Max operand) back = 0
digits_over kinds (Avg operand) back = width_of (kind_of_operand kinds operand) + digits_of_rows back
digits_over kinds (LastValue operand) back = 0

-- the digits of the divider of an item, 0 where it has none
abbrev pub digits_of_frame : List Kind → PlanFrame → ℕ
digits_of_frame kinds (Own operand) = 0
digits_of_frame kinds (Lag operand back) = 0
digits_of_frame kinds (Over agg filter back) = digits_over kinds agg back

-- ---- cycles

-- the cycles of a sum: over all rows it goes on by each row, and over some by what leaves the frame too
abbrev pub delay_of_sum : Option ℕ → ℕ
delay_of_sum None = 1
delay_of_sum (Some back) = 3

-- the cycles of a count: that of all rows of a frame is a number, that of those that a condition picks is a sum
abbrev pub delay_of_count : {A : Type 0} → Option A → Option ℕ → ℕ
delay_of_count None back = 1
delay_of_count (Some condition) back = delay_of_sum back

-- the cycles of an extreme: over some rows two for each of its rings, and one
abbrev pub delay_of_extreme : Option ℕ → ℕ
delay_of_extreme None = 1
delay_of_extreme (Some back) = 2 * digits back + 1

-- the cycles from a row to the value of a function: an average divides what its sum gives, a digit a cycle
abbrev pub delay_over : List Kind → PlanFrameAgg → Option ℕ → Option ℕ → ℕ
delay_over kinds Count filter back = delay_of_count filter back
delay_over kinds (Sum operand) filter back = delay_of_sum back
delay_over kinds (Min operand) filter back = delay_of_extreme back
delay_over kinds (Max operand) filter back = delay_of_extreme back
delay_over kinds (Avg operand) filter back = delay_of_sum back + digits_over kinds (Avg operand) back + 1
delay_over kinds (LastValue operand) filter back = 1

-- the cycles from a row to the value of an item, where it waits for no other item
abbrev pub delay_of_frame : List Kind → PlanFrame → ℕ
delay_of_frame kinds (Own operand) = 1
delay_of_frame kinds (Lag operand back) = 1
delay_of_frame kinds (Over agg filter back) = delay_over kinds agg filter back

-- the cycles of the slowest item, at least 1
abbrev pub delay_of_frames : List Kind → List PlanFrame → ℕ
delay_of_frames kinds [] = 1
delay_of_frames kinds (item ∷ items) = max (delay_of_frame kinds item) (delay_of_frames kinds items)

-- ---- rings

-- the rings of a sum: none over all rows
abbrev pub rings_of_sum : Option ℕ → ℕ
rings_of_sum None = 0
rings_of_sum (Some back) = 1

-- the rings of a count: none where all rows of a frame count
abbrev pub rings_of_count : Option ℕ → Option ℕ → ℕ
rings_of_count None back = 0
rings_of_count (Some column) back = rings_of_sum back

-- the rings of an extreme: one for each bit of the number of rows before the row itself, none over all rows
abbrev pub rings_of_extreme : Option ℕ → ℕ
rings_of_extreme None = 0
rings_of_extreme (Some back) = digits back

-- the rings of a function
abbrev pub rings_over : PlanFrameAgg → Option ℕ → Option ℕ → ℕ
rings_over Count filter back = rings_of_count filter back
rings_over (Sum operand) filter back = rings_of_sum back
rings_over (Min operand) filter back = rings_of_extreme back
rings_over (Max operand) filter back = rings_of_extreme back
rings_over (Avg operand) filter back = rings_of_sum back
rings_over (LastValue operand) filter back = 0

-- the rings of an item
abbrev pub rings_of_frame : PlanFrame → ℕ
rings_of_frame (Own operand) = 0
rings_of_frame (Lag operand back) = 1
rings_of_frame (Over agg filter back) = rings_over agg filter back

-- ---- the words of rings

-- the words of the ring of a sum, which gives the row that leaves the frame: a ring has more words than the distance that
-- it is read at, so no word is read in the cycle that writes it
abbrev pub words_of_sum : Option ℕ → ℕ
words_of_sum None = 0
words_of_sum (Some back) = ring (back + 2)

-- the words of the ring of a count
abbrev pub words_of_count : Option ℕ → Option ℕ → ℕ
words_of_count None back = 0
words_of_count (Some column) back = words_of_sum back

-- the words of so many rings of an extreme, from the one on that doubles a best of 2 ^ exponent rows; the last one makes
-- it that of the whole frame
abbrev pub words_of_doublings : ℕ → ℕ → ℕ → ℕ
words_of_doublings zero exponent back = 0
words_of_doublings (suc more) exponent back =
    ring (min (2 ^ exponent) (back + 1 - 2 ^ exponent) + 1) + words_of_doublings more (exponent + 1) back

-- the words of the rings of an extreme
abbrev pub words_of_extreme : Option ℕ → ℕ
words_of_extreme None = 0
words_of_extreme (Some back) = words_of_doublings (digits back) 0 back

-- the words of the rings of a function
abbrev pub words_over : PlanFrameAgg → Option ℕ → Option ℕ → ℕ
words_over Count filter back = words_of_count filter back
words_over (Sum operand) filter back = words_of_sum back
words_over (Min operand) filter back = words_of_extreme back
words_over (Max operand) filter back = words_of_extreme back
words_over (Avg operand) filter back = words_of_sum back
words_over (LastValue operand) filter back = 0

-- the words of the rings of an item
abbrev pub words_of_frame : PlanFrame → ℕ
words_of_frame (Own operand) = 0
words_of_frame (Lag operand back) = ring (back + 1)
words_of_frame (Over agg filter back) = words_over agg filter back
