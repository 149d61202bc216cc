-- Windows of each key over copies of a body: their numbers, and what the whole serves.
use Rattle.std.specs.Prelude.{◌≡◌, ℕ, ◌+◌, ◌*◌, ◌^◌, ◌<◌, ◌≤◌, ◌||◌, List, Some, Bool, slice_get, slice_index}
use Rattle.gl_algebra.specs.declared.figures.Figures.{Figures}
use Rattle.gl_algebra.specs.declared.node.PlanNode.{PlanNode}
use Rattle.gl_algebra.specs.FigureTable.{IsSound, partitions_over, stride_of, window_gap}
use Rattle.gl_values.specs.Lists.{has_further}
use Rattle.gl_values.specs.Partitions.{parts}
use Rattle.gl_values.specs.Results.{Row, Results, AreJoined, IsOfGroup}
use Rattle.gl_wire.specs.Apart.{Carries, CarriesApart}
use Rattle.gl_wire.specs.Beats.{Beats, Spaced, beats_of}
use Rattle.gl_wire.specs.Serves.{Fits}
use Rattle.gl_wire.specs.Serving.{Serving}
use Rattle.gl_wire.specs.Spills.{Lines, Relation, ServedWithLines, both_lines}
use Rattle.gl_wire.specs.Wire.{Carried, stream}
use Rattle.gl_algebra.specs.Values.{Sets}
use Rattle.gl_wire.specs.Bodies.{OfBody}
use Rattle.gl_wire.specs.Rotates.{lines_of_all}
use Rattle.gl_wire.specs.Timed.{Rested}
use Rattle.gl_slots.specs.Keys.{line_of_further}
use Rattle.gl_slots.specs.Slots.{slots_at}
use Rattle.gl_partition.specs.declared.partitioning.Partitioning.{Partitioning}
use Rattle.gl_partition.specs.Machine.{Numbers, copy_of}

-- the key of a row
abbrev pub key_of : Partitioning → Row → ℕ
key_of r row = slice_index row r.key

-- the numbers of its machine
abbrev pub numbers_of : Partitioning → Numbers
numbers_of r = record {
  slots = r.slots;
  key = key_of r;
  size = r.size;
  advance = r.advance;
  copies = r.copies;
  stride = stride_of r.body;
}

-- the copies of all slots
abbrev pub all_copies : Partitioning → ℕ
all_copies r = r.slots * r.copies

-- the turns after an end: one for the window that the last tuple completes, and one for each copy
abbrev pub all_turns : Partitioning → ℕ
all_turns r = all_copies r + 1

-- the cycles that the timer of the line of ends runs: no end of the source comes while it does
abbrev pub close_cycles : Partitioning → ℕ
close_cycles r = r.body.le + all_copies r * stride_of r.body + 1

-- the cycles from an end of the source to that on the line of ends, which the back gives one cycle later
abbrev pub close_delay : Partitioning → ℕ
close_delay r = close_cycles r + 1

-- numbers that a circuit can have: there are slots, each with copies for all windows that can be open at once, the body
-- waits for the end, and the ends can be timed
pub record IsPartitioning (r : Partitioning) : Type 0 where
  pub some_slot : 1 ≤ r.slots
  pub some_copy : 1 ≤ r.copies
  pub rows : 1 ≤ r.size
  pub step : 1 ≤ r.advance
  pub cover : r.size ≤ r.copies * r.advance
  pub sound : IsSound r.body
  pub closing : r.body.nt ≡ 0
  pub timed : r.body.le + all_copies r * stride_of r.body + 3 < 2 ^ 32

-- whatever comes finds the flush of each end before it over
abbrev pub AwaitsFlush : Partitioning → Carried → Type 0
AwaitsFlush r a = (c : ℕ) → Carries a c → Rested (all_turns r * stride_of r.body) a c

-- numbers, for each copy and cycle, that are the keys of the slots that are used
abbrev pub AreKeys : Partitioning → Carried → (ℕ → ℕ → ℕ) → Type 0
AreKeys r a keys = (i k c x : ℕ) → i < r.slots → k < r.copies
    → slice_get (slots_at r.slots (key_of r) (stride_of r.body) a c).keys i ≡ Some x
    → keys (copy_of (numbers_of r) i k) c ≡ x

-- what a body makes of each window of each key, joined, the key in front; the spill is a body's, or that of rows whose
-- keys are further ones
abbrev pub OfPartitions : Partitioning → (List Row → Results) → Relation
OfPartitions r Body xs ys p =
    (q : Bool) × AreJoined (IsOfGroup Body) (parts r.slots (key_of r) r.size r.advance xs) ys q
    × (p ≡ (q || has_further r.slots (key_of r) xs))

-- wherever each copy gives a body's results over the beats of its own wire, the whole gives those of all windows of all
-- keys, joined, over all beats that are spaced by the whole's figures, of a source that fits its own and carries far
-- enough apart; the lines are those of the copies, and the front's own
abbrev pub ServesPartitions
    : Partitioning → Figures → Carried → (ℕ → Carried) → (ℕ → Carried) → (ℕ → Lines) → (ℕ → Bool) → Carried → Type 0
ServesPartitions r f a ins outs lines further b =
    (sets : Sets) (nodes : List PlanNode) (body : ℕ) (beats : Beats)
    → Spaced (partitions_over (all_copies r) f r.body) beats
    → Fits f beats a → CarriesApart (window_gap r.body) a
    → ((k : ℕ) → k < all_copies r → Spaced r.body (beats_of (ins k))
    → Serving r.body (λ u. OfBody sets nodes body (stream (ins k) u)) (lines k) (beats_of (ins k)) (outs k))
    → ServedWithLines f (partitions_over (all_copies r) f r.body) (OfPartitions r (OfBody sets nodes body))
    (both_lines (lines_of_all lines (all_copies r)) (line_of_further further)) beats a b
