-- Groups over copies of a body: their numbers, and what the whole serves.
use Rattle.std.specs.Prelude.{◌≡◌, ℕ, ◌+◌, ◌^◌, ◌<◌, ◌≤◌, ◌||◌, List, Bool, slice_index}
use Rattle.gl_algebra.specs.declared.figures.Figures.{Figures}
use Rattle.gl_algebra.specs.declared.node.PlanNode.{PlanNode}
use Rattle.gl_algebra.specs.FigureTable.{IsSound, group_gap, groups_over, stride_of}
use Rattle.gl_values.specs.Lists.{groups, has_further}
use Rattle.gl_values.specs.Results.{Row, Results, AreJoined, IsOfGroup}
use Rattle.gl_wire.specs.Apart.{CarriesApart}
use Rattle.gl_wire.specs.Beats.{Beats, Spaced, beats_of}
use Rattle.gl_wire.specs.Serves.{Fits}
use Rattle.gl_wire.specs.Serving.{Serving}
use Rattle.gl_wire.specs.Spills.{Lines, Relation, ServedWithLines, both_lines}
use Rattle.gl_wire.specs.Wire.{Carried, stream}
use Rattle.gl_wire.specs.Rotates.{lines_of_all, turns_of}
use Rattle.gl_algebra.specs.Values.{Sets}
use Rattle.gl_wire.specs.Bodies.{OfBody}
use Rattle.gl_groups.specs.declared.grouping.Grouping.{Grouping}
use Rattle.gl_slots.specs.Keys.{AwaitsTurns, line_of_further}

-- the key of a row
abbrev pub key_of : Grouping → Row → ℕ
key_of r row = slice_index row r.key

-- the cycles that the timer of the line of ends runs: no end of the source comes while it does
abbrev pub close_cycles : Grouping → ℕ
close_cycles r = r.body.le + turns_of r.slots r.body + 1

-- the cycles from an end of the source to that on the line of ends, which the back gives one cycle later
abbrev pub close_delay : Grouping → ℕ
close_delay r = close_cycles r + 1

-- numbers of groups that a circuit can have: there are slots, the body waits for the end, and the ends can be timed
pub record IsGrouping (r : Grouping) : Type 0 where
  pub some' : 1 ≤ r.slots
  pub sound : IsSound r.body
  pub closing : r.body.nt ≡ 0
  pub timed : r.body.le + turns_of r.slots r.body + 3 < 2 ^ 32

-- whatever comes finds the flush of each end before it over: in so many cycles each slot has its turn
abbrev pub AwaitsFlush : Grouping → Carried → Type 0
AwaitsFlush r a = AwaitsTurns r.slots (stride_of r.body) a

-- what a body makes of each group, joined; the spill is a body's, or that of rows whose keys are further ones
abbrev pub OfGroups : ℕ → (Row → ℕ) → (List Row → Results) → Relation
OfGroups count key Body xs ys p =
    (q : Bool) × AreJoined (IsOfGroup Body) (groups count key xs) ys q × (p ≡ (q || has_further count key xs))

-- wherever each copy gives a body's results over the beats of its own wire, the whole gives those of all groups,
-- joined, over all beats that are spaced by the whole's figures, of a source that fits its own and carries far enough
-- apart; the lines are those of the copies, and the front's own
abbrev pub ServesGroups
    : Grouping → Figures → Carried → (ℕ → Carried) → (ℕ → Carried) → (ℕ → Lines) → (ℕ → Bool) → Carried → Type 0
ServesGroups r f a ins outs lines further b =
    (sets : Sets) (nodes : List PlanNode) (body : ℕ) (beats : Beats)
    → Spaced (groups_over r.slots f r.body) beats → Fits f beats a
    → CarriesApart (group_gap r.body) a
    → ((k : ℕ) → k < r.slots → Spaced r.body (beats_of (ins k))
    → Serving r.body (λ u. OfBody sets nodes body (stream (ins k) u)) (lines k) (beats_of (ins k)) (outs k))
    → ServedWithLines f (groups_over r.slots f r.body) (OfGroups r.slots (key_of r) (OfBody sets nodes body))
    (both_lines (lines_of_all lines r.slots) (line_of_further further)) beats a b
