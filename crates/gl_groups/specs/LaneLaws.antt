-- What a lane, row operators, a table and a gatherer serve together.
use Rattle.std.specs.Prelude.{◌≡◌, ℕ, suc, ◌+◌, ◌<◌, ◌≤◌, List, [], ◌∷◌, Option, Some, None, Bool, false, filter_map}
use Rattle.gl_values.specs.Results.{Row}
use Rattle.gl_algebra.specs.declared.figures.Figures.{Figures}
use Rattle.gl_algebra.specs.declared.node.PlanNode.{PlanNode}
use Rattle.gl_algebra.specs.FigureTable.{IsSound, aggregate_figures, delayed, groups_over, input_figures, stride_of}
use Rattle.gl_wire.specs.Beats.{Beats, Spaced}
use Rattle.gl_wire.specs.Serves.{Fits}
use Rattle.gl_wire.specs.Shapes.{AtEnds, IsDelayed, Steady}
use Rattle.gl_wire.specs.Spills.{ServedWithLines, both_lines, no_lines}
use Rattle.gl_wire.specs.Wire.{Carried}
use Rattle.gl_algebra.specs.Values.{Sets}
use Rattle.gl_wire.specs.Bodies.{OfBody}
use Rattle.gl_wire.specs.Rotates.{lines_of_all, turns_of}
use Rattle.gl_wire_lanes.specs.Shares.{share}
use Rattle.gl_wire_registers.specs.Timers.{IsClose}
use Rattle.gl_slots.specs.Keys.{AreKeys, AwaitsTurns, in_front, line_of_further}
use Rattle.gl_groups.specs.Groupings.{OfGroups}
use Rattle.gl_slots.specs.Slots.{AreSlots, came_further}

-- the figures of a body that is so many cycles of row operators, and a total
abbrev pub direct_figures : ℕ → ℕ → Figures
direct_figures d m = aggregate_figures m (delayed d input_figures)

-- a lane with what stands behind it: row operators, a table and a gatherer
pub record Laned (count d m : ℕ) (key : Row → ℕ) (step : Row → Option Row) (total : List Row → Row)
    (a lane mid out b : Carried) (slot slot_mid slot_out : ℕ → ℕ) (keys : ℕ → ℕ → ℕ) (further close : ℕ → Bool)
    : Type 0 where
  -- the shares of the lane are what the slots take
  pub front : AreSlots count key (stride_of (direct_figures d m)) a (λ k. share slot k lane)
  pub no_row : lane.tuple 0 ≡ None
  pub no_end : lane.ends 0 ≡ false
  pub shown : AreKeys count key (stride_of (direct_figures d m)) 1 a keys
  pub tells : (c : ℕ) → further c ≡ came_further count key a c
  -- row operators, with the slot so many cycles later
  pub rows : Steady d step lane mid
  pub slots : (c : ℕ) → slot_mid (suc c + d) ≡ slot (suc c)
  -- the table, which takes a cycle at least
  pub delay : 1 ≤ m
  pub table : (k : ℕ) → AtEnds m total (share slot_mid k mid) (share slot_out k out)
  pub within : (c : ℕ) (r : Row) → out.tuple c ≡ Some r → slot_out c < count
  -- the gatherer
  pub gathers : IsDelayed 1
      (record { tuple = λ c. in_front (keys (slot_out c) c) (out.tuple c); ends = close }) b
  pub closes : IsClose ((direct_figures d m).le + turns_of count (direct_figures d m) + 1)
      ((direct_figures d m).le + turns_of count (direct_figures d m) + 1 + 1) a.ends close

-- where each flush is over before anything comes, these serve what the body makes of groups, if the body makes that
-- total of the rows that the operators leave
abbrev pub LanesServe : Type 0
LanesServe =
    (f : Figures) (count d m : ℕ) (key : Row → ℕ) (step : Row → Option Row) (total : List Row → Row)
    (a lane mid out b : Carried) (slot slot_mid slot_out : ℕ → ℕ) (keys : ℕ → ℕ → ℕ) (further close : ℕ → Bool)
    (sets : Sets) (nodes : List PlanNode) (body : ℕ) → IsSound f → 1 ≤ count
    → (AwaitsTurns count (stride_of (direct_figures d m)) a
    → Laned count d m key step total a lane mid out b slot slot_mid slot_out keys further close)
    → ((xs : List Row) → OfBody sets nodes body xs (total (filter_map step xs) ∷ []) false)
    → (beats : Beats) → Spaced (groups_over count f (direct_figures d m)) beats → Fits f beats a
    → ServedWithLines f (groups_over count f (direct_figures d m)) (OfGroups count key (OfBody sets nodes body))
    (both_lines (lines_of_all (λ k. no_lines) count) (line_of_further further)) beats a b
