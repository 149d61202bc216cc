-- How close beats may come to several roots of a plan at once, and ticks. No root has spare copies there.
use Rattle.std.specs.Prelude.{ℕ, max, List, [], ◌∷◌, Option, Some, None, is_some, unwrap_or, if◌then◌else◌}
use Rattle.std.specs.List.{list_any}
use Rattle.gl_algebra.specs.declared.node.PlanNode.{PlanNode}
use Rattle.gl_algebra.specs.FigureTable.{figures_of}
use Rattle.gl_root_gaps.specs.Roots.{gap_with, tick_gaps_at, ticks_with}

-- the cycles from a beat to the next, at least, for one of them: its node's gap, or that of tuples where ticks are
-- farther apart
abbrev pub gap_alone : List PlanNode → ℕ → ℕ
gap_alone nodes root = gap_with (tick_gaps_at nodes root) (figures_of nodes root).gt

-- and from a tick to the next one and to the end: that of ticks, or the same
abbrev pub ticks_alone : List PlanNode → ℕ → ℕ
ticks_alone nodes root = unwrap_or (ticks_with (tick_gaps_at nodes root)) (gap_alone nodes root)

-- the greatest gap of all
abbrev pub gap_together : List PlanNode → List ℕ → ℕ
gap_together nodes [] = 0
gap_together nodes (root ∷ roots) = max (gap_alone nodes root) (gap_together nodes roots)

-- and the greatest of ticks
abbrev pub farthest_ticks : List PlanNode → List ℕ → ℕ
farthest_ticks nodes [] = 0
farthest_ticks nodes (root ∷ roots) = max (ticks_alone nodes root) (farthest_ticks nodes roots)

-- which is told where ticks of some root are farther apart than tuples
abbrev pub ticks_together : List PlanNode → List ℕ → Option ℕ
ticks_together nodes roots =
    if list_any (λ root. is_some (tick_gaps_at nodes root)) roots then Some (farthest_ticks nodes roots) else None
